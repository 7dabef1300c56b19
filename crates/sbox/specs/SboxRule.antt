-- The rule behind the substitution table (FIPS 197, 5.1.1): the inverse in the field of 256 elements, then an affine map of its bits.
-- The steps of the circuit promise each its part of it, and the printed table follows it (`SboxRule`).
use Rattle.std.specs.Prelude.{◌≡◌, ℕ, zero, suc, ◌+◌, ◌*◌, ◌/◌, ◌%◌, ◌^◌, ◌-◌, ◌<◌}
use Rattle.std.specs.Int.Bits.{bit_xor}
use Rattle.gf2.specs.Shift.{if_bit}
use Rattle.sbox.specs.Field.{xtime, sum4}
use Rattle.sbox.specs.Sbox.{sbox}

-- the product of a and the n low bits of b: a is added for each bit that is 1, and multiplied by x after each bit
unfoldable pub times_bits : ℕ → ℕ → ℕ → ℕ
times_bits zero a b = 0
times_bits (suc n) a b = bit_xor (if_bit (b % 2) a) (times_bits n (xtime a) (b / 2))

-- the product "a • b" of two bytes
unfoldable pub times : ℕ → ℕ → ℕ
times a b = times_bits 8 a b

-- the product of n squares of a, each the square of the one before: a to the power 2^(n + 1) - 2
unfoldable pub squares : ℕ → ℕ → ℕ
squares zero a = 1
squares (suc n) a = times (times a a) (squares n (times a a))

-- the inverse of a, a to the power 254; 0 for 0
unfoldable pub inverse : ℕ → ℕ
inverse a = squares 7 a

-- it is the inverse: the product with it is {01}, and {00} is its own. Proved in proofs/SboxLaws.
abbrev pub InverseRule : Type 0
InverseRule = ((a : ℕ) → 0 < a → a < 256 → times a (inverse a) ≡ 1) × (inverse 0 ≡ 0)

-- a byte's bits moved up by k places, round the end
abbrev pub rotated : ℕ → ℕ → ℕ
rotated b k = b * 2 ^ k % 256 + b / 2 ^ (8 - k)

-- the affine map: bit i of the result is the sum of the bits i, i + 4, i + 5, i + 6 and i + 7, round the end, and of {63}
unfoldable pub affine : ℕ → ℕ
affine b = bit_xor (bit_xor b (sum4 (rotated b 1) (rotated b 2) (rotated b 3) (rotated b 4))) 0x63

-- the printed table, at every byte. Proved in proofs/SboxLaws.
abbrev pub SboxRule : Type 0
SboxRule = (b : ℕ) → b < 256 → sbox b ≡ affine (inverse b)
