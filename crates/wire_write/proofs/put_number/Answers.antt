-- `wire_write::put_number` meets its contract: the last W of the number's four bytes.
use mathlib.Core.Path.{ap, ◌∙◌}
use mathlib.Core.List.{List}
use Prim.Native.Nat.{ℕ, ◌-◌}
use Rattle.wire.specs.Reading.{part}
use Rattle.wire_write.proofs.ByteLaws.{high_part}
use Rattle.wire_write.proofs.put_number.Goals as goal

pub returns : goal.returns
returns g c =
    let w = g.row.W in
    let e = ap (λ (bytes : List ℕ). part (4 - w) 4 bytes) c.to_be_bytes.ensures ∙ high_part w c.args.v c.requires.0 in
    rw e at c.put_all.ensures
