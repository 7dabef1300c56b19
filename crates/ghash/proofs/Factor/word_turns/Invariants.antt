use mathlib.Core.Path.{◌≡◌}
use Prim.Native.Nat.{◌*◌}
use Rattle.ghash.specs.Nibble.{turns_from}
use Rattle.ghash.proofs.Factor.word_turns.Given as goal

abbrev pub invariant-loop-i : goal.invariant-loop-i
invariant-loop-i l = l.r ≡ turns_from l.z (4 * l.i) l.w l.self.block
