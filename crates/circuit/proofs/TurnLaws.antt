-- The bits of a word that is rotated to the right.
use native.Mathlib.Nat.{div-eq_of_lt, lt_of_lt_of_le, mod-eq_of_lt}
use native.Mathlib.Omega.{arith}
use mathlib.Core.Path.{◌≡◌, ap, ap₂, ◌∙◌}
use Prim.Native.Nat.{ℕ, ◌+◌, ◌-◌, ◌*◌, ◌/◌, ◌%◌, ◌^◌, ◌<◌, ◌≤◌}
use lib.Bits.{bit_or, or_zero_r}
use lib.Pow.{pow_mono}
use mathlib.Core.Logic.{◌⊎◌, inl, inr}
use borrow.Author.Tests.{lt-ltb, le-ltb}
use mir.Syntax.{w64}
use Rattle.std.proofs.lemmas.Bool.{cases_lt}
use Rattle.std.specs.Int.{rotate_right}
use Rattle.planes.specs.Bits.{bit_at}
use Rattle.planes.proofs.BitLaws.{bit_or_lem, bit_down, bit_up}

-- a word has no bit past its width
no_bit : (j x : ℕ) → x < 2 ^ 64 → 64 ≤ j → bit_at j x ≡ 0
unfolding bit_at
no_bit j x f h = ap (λ (y : ℕ). y % 2) (div-eq_of_lt (lt_of_lt_of_le f (pow_mono h)))

module _ (j k x : ℕ) (h : j < 64) where
  -- the bits that stay in the word, and those that come round
  lower : k < 64 → j + k < 64 → bit_at j (bit_or (x / 2 ^ k) (x * 2 ^ (64 - k) % 2 ^ 64)) ≡ bit_at ((j + k) % 64) x
  lower l m =
      let up : bit_at j (x * 2 ^ (64 - k) % 2 ^ 64) ≡ 0 = bit_up j (64 - k) x ∙ simp (lt-ltb j 64 h, lt-ltb j (64 - k) (omega arith)) in
      let e : k + j ≡ (j + k) % 64 = omega arith in
      bit_or_lem j (x / 2 ^ k) (x * 2 ^ (64 - k) % 2 ^ 64)
      ∙ ap₂ bit_or (bit_down j k x) up
      ∙ or_zero_r (bit_at (k + j) x)
      ∙ ap (λ (i : ℕ). bit_at i x) e

  upper : k < 64 → x < 2 ^ 64 → 64 ≤ j + k → bit_at j (bit_or (x / 2 ^ k) (x * 2 ^ (64 - k) % 2 ^ 64)) ≡ bit_at ((j + k) % 64) x
  upper l f m =
      let up : bit_at j (x * 2 ^ (64 - k) % 2 ^ 64) ≡ bit_at (j - (64 - k)) x =
      bit_up j (64 - k) x ∙ simp (lt-ltb j 64 h, le-ltb j (64 - k) (omega arith)) in
      let down : bit_at j (x / 2 ^ k) ≡ 0 = bit_down j k x ∙ no_bit (k + j) x f (omega arith) in
      let e : j - (64 - k) ≡ (j + k) % 64 = omega arith in
      bit_or_lem j (x / 2 ^ k) (x * 2 ^ (64 - k) % 2 ^ 64)
      ∙ ap₂ bit_or down up
      ∙ ap (λ (i : ℕ). bit_at i x) e

  either : (j + k < 64) ⊎ (64 ≤ j + k) → k < 64 → x < 2 ^ 64 → bit_at j (bit_or (x / 2 ^ k) (x * 2 ^ (64 - k) % 2 ^ 64)) ≡ bit_at ((j + k) % 64) x
  either (inl m) l f = lower l m
  either (inr m) l f = upper l f m

  pub bit_turned : 0 < k → k < 64 → x < 2 ^ 64 → bit_at j (rotate_right w64 x k) ≡ bit_at ((j + k) % 64) x
  bit_turned z l f =
      let a : k % 64 ≡ k = mod-eq_of_lt l in
      let b : (64 - k % 64) % 64 ≡ 64 - k = omega arith in
      ap₂ (λ (m n : ℕ). bit_at j (bit_or (x / 2 ^ m) (x * 2 ^ n % 2 ^ 64))) a b ∙ either (cases_lt (j + k) 64) l f
