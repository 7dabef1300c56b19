-- `ending::except` meets its contract.
use mathlib.Core.Path.{refl, sym, ap}
use Prim.Native.Nat.{ℕ}
use Rattle.model.specs.Periods.{listed}
use Rattle.cosem.specs.Tags.{exception_bytes}
use Rattle.protocol.specs.Rulings.{apdu}
use Rattle.protocol.specs.Outcomes.{keeping}
use Rattle.ending.proofs.Endings.{same_wipes, says_line}
use Rattle.ending.specs.Inner.{meter_with}
use Rattle.ending.proofs.except.Goals as goal

pub returns : goal.returns
returns c before t e k b =
    says_line t (apdu c.args.head (exception_bytes c.args.e)) (meter_with before b) (sym e) c.send_exception-count.ensures c.args.line refl (ap (λ (n : ℕ). listed n keeping) e) (same_wipes c.args.line k)
