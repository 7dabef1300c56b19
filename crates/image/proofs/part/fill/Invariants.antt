use lib.ListN.{length}
use Rattle.image.proofs.LoopLaws.{Getting}
use Rattle.image.proofs.part.fill.Given as goal

abbrev pub invariant-loop-i : goal.invariant-loop-i
invariant-loop-i g l = Getting g.T.Part.part (length l.initial.items) l.count l.s l.at l.items l.i
