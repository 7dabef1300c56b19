-- `wire_write::put_length` meets its contract: its long form.
use native.Mathlib.Omega.{arith}
use Rattle.wire.proofs.LengthLaws.{field_three}
use Rattle.wire_write.proofs.WroteLaws.{then}
use Rattle.wire_write.proofs.put_length.Goals as goal

pub returns-in_default : goal.returns-in_default
returns-in_default c =
    rw (field_three c.args.n (omega arith)) (then c.put-two.ensures c.put_number.ensures)
