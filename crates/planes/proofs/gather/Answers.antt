-- One test of all bits: from where the code takes each.
use mathlib.Core.Path.{◌≡◌, refl, ap₂, ◌∙◌}
use mathlib.Core.Bool.{true}
use Prim.Native.Nat.{ℕ, ◌+◌, ◌*◌, ◌/◌, ◌%◌, ◌<◌}
use native.Mathlib.Omega.{arith}
use Rattle.gf2.specs.Table.{all_below}
use Rattle.gf2.proofs.TableLaws.{below}
use Rattle.planes.specs.Bits.{bit_at}
use Rattle.planes.specs.Lanes.{words_of, lane, byte_of}
use Rattle.planes.specs.declared.Planes.{Planes}
use Rattle.planes.proofs.MoveLaws.{Move, word, up, keep, join, value, source, is_bit, moved}
use Rattle.planes.proofs.LaneLaws.{plane_bit, byte_is}
use Rattle.planes.proofs.gather.Goals as goal

abbrev lifted : ℕ → Move
lifted i = up i (keep 0x0101010101010101 (word i))

program : Move
program =
    join
    (join (join (keep 0x0101010101010101 (word 0)) (lifted 1)) (join (lifted 2) (lifted 3)))
    (join (join (lifted 4) (lifted 5)) (join (lifted 6) (lifted 7)))

test : all_below (λ j. is_bit (j % 8) (j / 8 * 8) (source program j)) 64 ≡ true
unfolding bit_at program
test = refl

gathered : (p : Planes) (k : ℕ) → k < 8 → byte_of k (value (words_of p) program) ≡ lane (k * 8) p
gathered p k h =
    byte_is k (k * 8) (value (words_of p) program) p
    (λ i l.
    let j = k * 8 + i in
    let a : j / 8 * 8 ≡ k * 8 = omega arith in
    let b : j % 8 ≡ i = omega arith in
    moved (words_of p) program j (j % 8) (j / 8 * 8) (below (λ j. is_bit (j % 8) (j / 8 * 8) (source program j)) 64 test j (omega arith))
    ∙ ap₂ (λ (n m : ℕ). plane_bit m n p) a b)

pub returns : goal.returns
unfolding program
returns c = λ k h. gathered _ k h
