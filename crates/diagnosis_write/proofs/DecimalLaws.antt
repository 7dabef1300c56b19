-- Laws of decimal digits: the fewest that hold a number are those that the line has, and how many they are.
use mathlib.Core.Path.{◌≡◌, refl, ap}
use mathlib.Core.Bool.{Bool, true, false}
use mathlib.Core.List.{◌++◌}
use Prim.Native.Nat.{ℕ, zero, suc, ◌+◌, ◌-◌, ◌/◌, ◌^◌, ◌≤◌, ◌<◌}
use native.Mathlib.Nat.{pow-suc, one-le-pow}
use native.Mathlib.Omega.{arith}
use lib.Dec.{ltb}
use lib.ListN.{length, length-append}
use borrow.Author.Tests.{ltb-true, ltb-false}
use Rattle.std.specs.Prelude.{codes}
use Rattle.io.specs.Digits.{last_digits, IsDigitCount}
use Rattle.call_tests.specs.Lines.{digits_within, decimal}
use Rattle.diagnosis_write.specs.Lengths.{longest_number}

-- a number below ten has one digit
fewest_one : (n k : ℕ) → n < 10 → IsDigitCount 10 1 n k → 1 ≡ k
fewest_one n zero h f = omega (arith, f.0)
fewest_one n (suc zero) h f = refl
fewest_one n (suc (suc j)) h f =
    let e : suc (suc j) - 1 ≡ suc j = omega arith in
    omega (arith, rw e at (f.2 (omega arith)), pow-suc 10 j, one-le-pow j 10 (omega arith))

-- without its last digit a number of more digits has one less
fewest_less : (n j : ℕ) → IsDigitCount 10 1 n (suc (suc j)) → IsDigitCount 10 1 (n / 10) (suc j)
fewest_less n j f =
    let d : suc (suc j) - 1 ≡ suc j = omega arith in
    let e : suc j - 1 ≡ j = omega arith in
    (omega arith, omega (arith, f.1, pow-suc 10 (suc j)), λ h. rw e (omega (arith, rw d at (f.2 (omega arith)), pow-suc 10 j)))

by_size : (m n k : ℕ) (b : Bool) → ltb n 10 ≡ b → IsDigitCount 10 1 n k → ((j : ℕ) → IsDigitCount 10 1 (n / 10) j → digits_within m (n / 10) ≡ j) → digits_within (suc m) n ≡ k
by_size m n k true e f shorter = rw e (fewest_one n k (ltb-true n 10 e) f)
by_size m n zero false e f shorter = omega (arith, f.0)
by_size m n (suc zero) false e f shorter = omega (arith, f.1, ltb-false n 10 e)
by_size m n (suc (suc j)) false e f shorter = rw e (ap suc (shorter (suc j) (fewest_less n j f)))

within : (m n k : ℕ) → IsDigitCount 10 1 n k → n < 10 ^ suc m → digits_within m n ≡ k
within zero n k f h = fewest_one n k h f
within (suc m) n k f h =
    by_size m n k (ltb n 10) refl f (λ j g. within m (n / 10) j g (omega (arith, pow-suc 10 (suc m))))

-- the fewest digits that hold a number of at most twenty
pub fewest_digits : (n k : ℕ) → IsDigitCount 10 1 n k → n < 10 ^ 20 → digits_within 19 n ≡ k
fewest_digits n k f h = within 19 n k f h

-- a number has no more digits than a power of ten above it tells
at_most_by : (m n k : ℕ) (b : Bool) → ltb n 10 ≡ b → n < 10 ^ suc k → ((j : ℕ) → n / 10 < 10 ^ suc j → digits_within m (n / 10) ≤ suc j) → digits_within (suc m) n ≤ suc k
at_most_by m n k true e h shorter = rw e (omega arith)
at_most_by m n zero false e h shorter = omega (arith, ltb-false n 10 e)
at_most_by m n (suc j) false e h shorter = rw e (omega (arith, shorter j (omega (arith, pow-suc 10 (suc j)))))

digits_at_most : (m n k : ℕ) → n < 10 ^ suc k → digits_within m n ≤ suc k
digits_at_most zero n k h = omega arith
digits_at_most (suc m) n k h = at_most_by m n k (ltb n 10) refl h (λ j g. digits_at_most m (n / 10) j g)

pub twenty_digits : (n : ℕ) → n < 10 ^ 20 → digits_within 19 n ≤ 20
twenty_digits n h = digits_at_most 19 n 19 h

length_digits : (k n : ℕ) → length (last_digits 10 k n) ≡ k
length_digits zero n = refl
length_digits (suc k) n = simp (length-append, length_digits k (n / 10)) (omega arith)

-- of one byte, three digits; and a space behind them
pub byte_long : (n : ℕ) → n < 256 → length (decimal n) ≤ longest_number
byte_long n h = rw (length_digits (digits_within 19 n) n) (digits_at_most 19 n 2 (omega arith))

pub byte_spaced : (n : ℕ) → n < 256 → length (decimal n ++ codes " ") ≤ longest_number + 1
byte_spaced n h = simp length-append (omega (arith, byte_long n h))
