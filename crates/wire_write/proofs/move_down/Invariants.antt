use mathlib.Core.Path.{◌≡◌}
use lib.ListN.{length, take, drop}
use lib.Seq.{paste}
use Rattle.wire_write.proofs.move_down.Given as goal

-- the bytes up to the index are moved
abbrev pub invariant-loop-i : goal.invariant-loop-i
invariant-loop-i l = (length l.out ≡ length l.initial.out) × (l.out ≡ paste l.initial.out l.to (take l.n (drop l.from l.initial.out)) l.i)
