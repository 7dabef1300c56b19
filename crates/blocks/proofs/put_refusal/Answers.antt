-- `blocks::put_refusal` meets its contract.
use native.Mathlib.Omega.{arith}
use Rattle.wire.proofs.NumberLaws.{length_high}
use Rattle.wire_write.proofs.WroteLaws.{then}
use Rattle.blocks.proofs.put_refusal.Goals as goal

pub put-b-requires : goal.put-b-requires
put-b-requires c =
    omega (arith, c.put_head-a.ensures.next, c.put_head-a.ensures.kept, length_high 4 c.args.number, c.requires)

pub put-requires : goal.put-requires
put-requires c =
    omega (arith, c.put_head-a.ensures.next, c.put_head-a.ensures.kept, c.put-b.ensures.next, c.put-b.ensures.kept, length_high 4 c.args.number, c.requires)

pub returns : goal.returns
returns c =
    then c.put_head-a.ensures (then c.put-b.ensures c.put.ensures)
