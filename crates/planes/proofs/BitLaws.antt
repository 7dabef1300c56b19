-- Single bits of what the word operations give.
use mathlib.Core.Path.{◌≡◌, refl, sym, ap, ◌∙◌}
use mathlib.Core.Bool.{Bool, true, false, cond}
use Prim.Native.Nat.{ℕ, suc, ◌+◌, ◌-◌, ◌*◌, ◌/◌, ◌%◌, ◌^◌, ◌<◌, ◌≤◌}
use native.Mathlib.Nat.{mod-lt, zero-lt-suc, mul_assoc, div-eq_of_lt, lt_of_lt_of_le}
use native.Mathlib.Omega.{arith}
use lib.Bits.{bit_xor, bit_and, bit_or, xor_shr, xor_mod, and_shr, and_mod, or_shr, or_mod, and_mask, shifted_even}
use lib.Pow.{shr-shr, shl-shr, field, mod-mod-pow, pow-add, pow_pos, pow_mono}
use lib.Dec.{ltb}
use borrow.Author.Tests.{ltb-true, ltb-false}
use Rattle.planes.specs.Bits.{bit_at}

pub bit_lt : (j x : ℕ) → bit_at j x < 2
unfolding bit_at
bit_lt j x = mod-lt (x / 2 ^ j) (zero-lt-suc 1)

pub bit_xor_lem : (j a b : ℕ) → bit_at j (bit_xor a b) ≡ bit_xor (bit_at j a) (bit_at j b)
unfolding bit_at
bit_xor_lem j a b = ap (λ (x : ℕ). x % 2) (xor_shr a b j) ∙ xor_mod (a / 2 ^ j) (b / 2 ^ j) 1

pub bit_and_lem : (j a b : ℕ) → bit_at j (bit_and a b) ≡ bit_and (bit_at j a) (bit_at j b)
unfolding bit_at
bit_and_lem j a b = ap (λ (x : ℕ). x % 2) (and_shr a b j) ∙ and_mod (a / 2 ^ j) (b / 2 ^ j) 1

pub bit_or_lem : (j a b : ℕ) → bit_at j (bit_or a b) ≡ bit_or (bit_at j a) (bit_at j b)
unfolding bit_at
bit_or_lem j a b = ap (λ (x : ℕ). x % 2) (or_shr a b j) ∙ or_mod (a / 2 ^ j) (b / 2 ^ j) 1

pub bit_down : (j k x : ℕ) → bit_at j (x / 2 ^ k) ≡ bit_at (k + j) x
unfolding bit_at
bit_down j k x = ap (λ (y : ℕ). y % 2) (shr-shr x k j)

-- a shift to the left by k: no bit below k
bit_low : (j k x : ℕ) → j < k → bit_at j (x * 2 ^ k) ≡ 0
unfolding bit_at
bit_low j k x h =
    let e : k ≡ suc (k - suc j) + j = omega arith in
    ap (λ (n : ℕ). x * 2 ^ n / 2 ^ j % 2) e
    ∙ ap (λ (y : ℕ). x * y / 2 ^ j % 2) (pow-add 2 (suc (k - suc j)) j)
    ∙ ap (λ (y : ℕ). y / 2 ^ j % 2) (sym (mul_assoc x (2 ^ suc (k - suc j)) (2 ^ j)))
    ∙ ap (λ (y : ℕ). y % 2) (shl-shr (x * 2 ^ suc (k - suc j)) j)
    ∙ shifted_even x (k - suc j)

bit_high : (j k x : ℕ) → k ≤ j → bit_at j (x * 2 ^ k) ≡ bit_at (j - k) x
unfolding bit_at
bit_high j k x h =
    let e : j ≡ k + (j - k) = omega arith in
    ap (λ (n : ℕ). x * 2 ^ k / 2 ^ n % 2) e
    ∙ ap (λ (y : ℕ). y % 2) (sym (shr-shr (x * 2 ^ k) k (j - k)))
    ∙ ap (λ (y : ℕ). y / 2 ^ (j - k) % 2) (shl-shr x k)

-- bits past the width are lost
bit_in : (j w x : ℕ) → j < w → bit_at j (x % 2 ^ w) ≡ bit_at j x
unfolding bit_at
bit_in j w x h =
    let e : w ≡ (w - suc j + 1) + j = omega arith in
    ap (λ (n : ℕ). x % 2 ^ n / 2 ^ j % 2) e
    ∙ ap (λ (y : ℕ). y % 2) (field x (w - suc j + 1) j)
    ∙ mod-mod-pow (x / 2 ^ j) (w - suc j) 1

bit_out : (j w x : ℕ) → w ≤ j → bit_at j (x % 2 ^ w) ≡ 0
unfolding bit_at
bit_out j w x h = ap (λ (y : ℕ). y % 2) (div-eq_of_lt (lt_of_lt_of_le (mod-lt x (pow_pos w)) (pow_mono h)))

by_test : (t : Bool) (x a b : ℕ) → (t ≡ true → x ≡ a) → (t ≡ false → x ≡ b) → x ≡ cond t a b
by_test true x a b f g = f refl
by_test false x a b f g = g refl

pub bit_up : (j k x : ℕ) → bit_at j (x * 2 ^ k % 2 ^ 64) ≡ cond (ltb j 64) (cond (ltb j k) 0 (bit_at (j - k) x)) 0
bit_up j k x =
    by_test (ltb j 64) (bit_at j (x * 2 ^ k % 2 ^ 64)) (cond (ltb j k) 0 (bit_at (j - k) x)) 0
    (λ e.
    bit_in j 64 (x * 2 ^ k) (ltb-true j 64 e)
    ∙ by_test (ltb j k) (bit_at j (x * 2 ^ k)) 0 (bit_at (j - k) x) (λ d. bit_low j k x (ltb-true j k d)) (λ d. bit_high j k x (ltb-false j k d)))
    (λ e. bit_out j 64 (x * 2 ^ k) (ltb-false j 64 e))

-- a bit kept, or not
pub keep_one : (x : ℕ) → x < 2 → bit_and x 1 ≡ x
keep_one x h =
    let e : x % 2 ≡ x = omega arith in and_mask x 1 ∙ e
