-- `image_write::parts::put_each` meets its contract: the elements so far are written.
use native.Mathlib.Omega.{arith}
use Rattle.image_write.proofs.LoopLaws.{putting_none, putting_more}
use Rattle.image_write.proofs.parts.put_each.Goals as goal

pub loop-item-init : goal.loop-item-init
loop-item-init g c =
    (rw g.met.T.Part.sized c.requires, putting_none c.told-items (omega (arith, c.requires)))

pub loop-item-preserved : goal.loop-item-preserved
loop-item-preserved g c =
    (c.loop-item.invariant.0, putting_more _ c.loop-item.invariant.1 c.loop-item-test.true c.put-next.ensures)
