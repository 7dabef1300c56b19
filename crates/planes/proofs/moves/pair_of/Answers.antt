-- Tests of all bits: those of the first word, those of the second, and those that are 0.
use mathlib.Core.Path.{◌≡◌, refl}
use mathlib.Core.Bool.{Bool, true, false, cond}
use mathlib.Core.List.{[], ◌∷◌}
use Prim.Native.Nat.{ℕ, ◌*◌, ◌/◌, ◌%◌}
use lib.Dec.{eqb}
use Rattle.gf2.specs.Table.{all_below}
use Rattle.gf2.proofs.TableLaws.{below}
use Rattle.planes.specs.Bits.{bit_at}
use Rattle.planes.proofs.MoveLaws.{Source, value, source, is_bit, is_none, moved, emptied}
use Rattle.planes.proofs.PairMoves.{pair_program}
use Rattle.planes.proofs.moves.pair_of.Goals as goal

-- what has to come to place j
abbrev right : Bool → Bool → ℕ → Source → Bool
right true q j s = is_bit 0 (j / 8 * 8) s
right false true j s = is_bit 1 (j / 8 * 8) s
right false false j s = is_none s

test : all_below (λ j. right (eqb (j % 8) 0) (eqb (j % 8) 4) j (source pair_program j)) 64 ≡ true
unfolding bit_at pair_program
test = refl

by_right : (e o j : ℕ) (p q : Bool) → right p q j (source pair_program j) ≡ true
    → bit_at j (value (e ∷ o ∷ []) pair_program) ≡ cond p (bit_at (j / 8 * 8) e) (cond q (bit_at (j / 8 * 8) o) 0)
by_right e o j true q h = moved (e ∷ o ∷ []) pair_program j 0 (j / 8 * 8) h
by_right e o j false true h = moved (e ∷ o ∷ []) pair_program j 1 (j / 8 * 8) h
by_right e o j false false h = emptied (e ∷ o ∷ []) pair_program j h

pub returns : goal.returns
unfolding pair_program
returns c =
    λ j h.
    by_right _ _ j (eqb (j % 8) 0) (eqb (j % 8) 4)
    (below (λ j. right (eqb (j % 8) 0) (eqb (j % 8) 4) j (source pair_program j)) 64 test j h)
