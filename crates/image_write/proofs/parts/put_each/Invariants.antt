use Rattle.std.proofs.Common.{◌≤◌, ◌+◌, ◌*◌, length}
use Rattle.image_write.proofs.LoopLaws.{Putting}
use Rattle.image_write.proofs.parts.put_each.Given as goal

abbrev pub invariant-loop-item : goal.invariant-loop-item
invariant-loop-item g l =
    (l.at + g.row.N * g.T.Part.part.size ≤ length l.fn.out) × Putting g.T.Part.part g.row.N l.items l.fn.out l.at l.out l.next l.item-index
