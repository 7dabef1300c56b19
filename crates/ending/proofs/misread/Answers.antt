-- `ending::misread` meets its contract.
use mathlib.Core.Path.{refl, sym}
use Rattle.line.specs.View.{line_of}
use Rattle.protocol.specs.Rulings.{malformed_apdu}
use Rattle.ending.proofs.Endings.{accepted_same}
use Rattle.ending.proofs.misread.Goals as goal

pub returns : goal.returns
returns c b =
    let next = c.accept_counter.ensures in
    rw (sym next)
    (c.except.ensures c.args.line malformed_apdu refl (λ d. accepted_same c.args.client c.args.counter (line_of c.args.line) next d) b)
