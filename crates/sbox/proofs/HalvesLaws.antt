-- The inverse by halves is the inverse in FIPS 197's field, at each of the 256 bytes: one computed test. And what the halves are made of.
use mathlib.Core.Path.{◌≡◌, refl}
use mathlib.Core.Bool.{true}
use Prim.Native.Nat.{ℕ, ◌/◌, ◌%◌, ◌^◌, ◌<◌}
use lib.Bits.{bit_xor}
use lib.Dec.{eqb}
use borrow.Author.Tests.{eqb-true}
use Rattle.gf2.specs.Table.{all_below}
use Rattle.gf2.proofs.TableLaws.{below}
use Rattle.sbox.specs.Field.{xtime}
use Rattle.sbox.specs.SboxRule.{times_bits, times, squares, inverse}
use Rattle.sbox.specs.Halves.{W, Z, Y, square, half, whole, scaled_square, norm}

-- the equations of W, Z and Y
w_rule : bit_xor (bit_xor (square W) W) 1 ≡ 0
unfolding square times times_bits xtime
w_rule = refl

z_rule : bit_xor (bit_xor (square Z) Z) W ≡ 0
unfolding square times times_bits xtime
z_rule = refl

y_rule : bit_xor (bit_xor (square Y) Y) (times (square W) Z) ≡ 0
unfolding square times times_bits xtime
y_rule = refl

-- the halves of the bits of k, the first four and the last four
abbrev pub low_of : ℕ → ℕ
low_of k = half (k / 2 ^ 0 % 2) (k / 2 ^ 1 % 2) (k / 2 ^ 2 % 2) (k / 2 ^ 3 % 2)

abbrev pub high_of : ℕ → ℕ
high_of k = half (k / 2 ^ 4 % 2) (k / 2 ^ 5 % 2) (k / 2 ^ 6 % 2) (k / 2 ^ 7 % 2)

-- the norm is the product of the byte and its sixteenth power
norms : all_below (λ k. eqb (norm (low_of k) (high_of k)) (times (whole (low_of k) (high_of k)) (square (square (square (square (whole (low_of k) (high_of k)))))))) 256 ≡ true
unfolding square half whole scaled_square norm times times_bits xtime
norms = refl

-- the byte whose halves are m and n exchanged, each times i
unfoldable pub exchanged_times : ℕ → ℕ → ℕ → ℕ
exchanged_times i m n = whole (times i n) (times i m)

-- with the inverse of the norm it is the inverse
inverts : all_below (λ k. eqb (exchanged_times (inverse (norm (low_of k) (high_of k))) (low_of k) (high_of k)) (inverse (whole (low_of k) (high_of k)))) 256 ≡ true
unfolding exchanged_times square half whole scaled_square norm inverse squares times times_bits xtime
inverts = refl

pub inverse_halves : (k : ℕ) → k < 256 → exchanged_times (inverse (norm (low_of k) (high_of k))) (low_of k) (high_of k) ≡ inverse (whole (low_of k) (high_of k))
inverse_halves k h =
    eqb-true
    (exchanged_times (inverse (norm (low_of k) (high_of k))) (low_of k) (high_of k))
    (inverse (whole (low_of k) (high_of k)))
    (below (λ k. eqb (exchanged_times (inverse (norm (low_of k) (high_of k))) (low_of k) (high_of k)) (inverse (whole (low_of k) (high_of k)))) 256 inverts k h)
