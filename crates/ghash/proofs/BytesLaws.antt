-- Blocks and their sixteen bytes, as std reads and writes a number's bytes.
use mathlib.Core.Path.{◌≡◌, sym, ap, ◌∙◌}
use mathlib.Core.List.{List}
use Prim.Native.Nat.{ℕ, ◌+◌, ◌*◌, ◌/◌, ◌%◌, ◌^◌, ◌<◌}
use native.Mathlib.Nat.{mod-eq_of_lt}
use native.Mathlib.Omega.{arith}
use lib.ListN.{get_or, take}
use lib.Pow.{shr-shr, shr_lt, field, mod-mod-pow}
use mir.Syntax.{w128}
use Rattle.std.proofs.lemmas.List.{get_or-take}
use Rattle.std.specs.Int.{to_be_bytes, from_be_bytes}
use Rattle.ghash.specs.Hash.{block, block_bytes}

spelled_sum : (a b c d e f g h i j k l m n o p : ℕ) →
    a * 256 ^ 15 + b * 256 ^ 14 + c * 256 ^ 13 + d * 256 ^ 12 + e * 256 ^ 11 + f * 256 ^ 10 + g * 256 ^ 9 + h * 256 ^ 8
    + i * 256 ^ 7 + j * 256 ^ 6 + k * 256 ^ 5 + l * 256 ^ 4 + m * 256 ^ 3 + n * 256 ^ 2 + o * 256 ^ 1 + p
    ≡ (a * 2 ^ 56 + b * 2 ^ 48 + c * 2 ^ 40 + d * 2 ^ 32 + e * 2 ^ 24 + f * 2 ^ 16 + g * 2 ^ 8 + h) * 2 ^ 64
    + (i * 2 ^ 56 + j * 2 ^ 48 + k * 2 ^ 40 + l * 2 ^ 32 + m * 2 ^ 24 + n * 2 ^ 16 + o * 2 ^ 8 + p)
spelled_sum a b c d e f g h i j k l m n o p = omega arith

spelled : (xs : List ℕ) → from_be_bytes w128 xs ≡ block xs
unfolding block
spelled xs = spelled_sum _ _ _ _ _ _ _ _ _ _ _ _ _ _ _ _

-- a block is what any sixteen bytes spell that are those of the string, as far as it goes
pub spelled_by : (xs ys : List ℕ) → ((k : ℕ) → k < 16 → get_or xs k 0 ≡ get_or ys k 0) → from_be_bytes w128 xs ≡ block ys
spelled_by xs ys h = rw (h 0 (omega arith), h 1 (omega arith), h 2 (omega arith), h 3 (omega arith), h 4 (omega arith), h 5 (omega arith), h 6 (omega arith), h 7 (omega arith), h 8 (omega arith), h 9 (omega arith), h 10 (omega arith), h 11 (omega arith), h 12 (omega arith), h 13 (omega arith), h 14 (omega arith), h 15 (omega arith)) (spelled ys)

-- the first sixteen bytes alone count
pub block_take : (xs : List ℕ) → block (take 16 xs) ≡ block xs
block_take xs = sym (spelled (take 16 xs)) ∙ spelled_by (take 16 xs) xs (λ k h. get_or-take 16 xs k 0 h)

-- the bytes of a block are those of its two words
top : (n : ℕ) → n < 2 ^ 128 → n / 2 ^ 120 % 256 ≡ n / 2 ^ 64 / 2 ^ 56
top n h = mod-eq_of_lt (shr_lt 8 120 h) ∙ sym (shr-shr n 64 56)

upper : (n j : ℕ) → n / 2 ^ (64 + j) % 256 ≡ n / 2 ^ 64 / 2 ^ j % 256
upper n j = ap (λ (t : ℕ). t % 256) (sym (shr-shr n 64 j))

lower : (n i j : ℕ) → n / 2 ^ j % 2 ^ 8 ≡ n % 2 ^ (i + 8 + j) / 2 ^ j % 2 ^ 8
lower n i j = sym (ap (λ (t : ℕ). t % 2 ^ 8) (field n (i + 8) j) ∙ mod-mod-pow (n / 2 ^ j) i 8)

pub high_bytes : (n : ℕ) → n < 2 ^ 128 → to_be_bytes w128 n ≡ block_bytes n
unfolding block_bytes
high_bytes n h =
    rw (
      top n h,
      upper n 48,
      upper n 40,
      upper n 32,
      upper n 24,
      upper n 16,
      upper n 8,
      sym (field n 8 56),
      lower n 8 48,
      lower n 16 40,
      lower n 24 32,
      lower n 32 24,
      lower n 40 16,
      lower n 48 8,
      sym (mod-mod-pow n 56 8),
    )
