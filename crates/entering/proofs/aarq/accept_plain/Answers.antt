-- `entering::aarq::accept_plain` meets its contract.
use mathlib.Core.Path.{refl, sym}
use mathlib.Core.List.{[]}
use Rattle.line.specs.View.{line_of}
use Rattle.protocol.specs.Rulings.{none}
use Rattle.protocol.specs.Decide.{accepted_plain}
use Rattle.ending.proofs.Endings.{says_line, stands_plain}
use Rattle.model.specs.State.{associated}
use Rattle.ending.specs.Inner.{meter_with}
use Rattle.entering.proofs.aarq.accept_plain.Goals as goal

pub returns : goal.returns
unfolding accepted_plain line_of
returns c b =
    let l = line_of c.args.line in
    rw (sym c.agreed-agreed.ensures)
    (says_line none _ (meter_with c.args.line b) refl c.send_accepted_plain-count.ensures _ c.associated_plain.ensures refl
    (stands_plain c.associated_plain.result (associated c.agreed-agreed.result []) l refl))
