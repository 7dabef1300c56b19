-- The days of the first years and of the first months: more of them have no fewer days, and there are closed forms, by which code
-- computes them.
use mathlib.Core.Path.{◌≡◌, refl}
use mathlib.Core.Bool.{Bool, true, false, cond}
use mathlib.Core.List.{List, [], ◌∷◌}
use Prim.Native.Nat.{ℕ, zero, suc, ◌+◌, ◌-◌, ◌*◌, ◌/◌, ◌%◌, ◌<◌, ◌≤◌}
use native.Mathlib.Numerals.{sub-one}
use native.Mathlib.Omega.{arith}
use lib.Dec.{eqb, leb}
use lib.ListN.{get_or, get_or-eq_default}
use borrow.Author.Tests.{eqb-true, eqb-false, leb-true, leb-false}
use Rattle.model.specs.Clocks.{february_days, days_in, days_of_months, days_of_years}
use Rattle.model.proofs.ListLaws.{FirstOf, at_first}

-- what falls from no number to the next never falls
no_fall : (f : ℕ → ℕ) → ((k : ℕ) → f k ≤ f (suc k)) → (k n : ℕ) → k ≤ n → f k ≤ f n
no_fall f s k zero h = let e : k ≡ 0 = omega arith in rw e (omega arith)
no_fall f s k (suc n) h = go (eqb k (suc n)) refl (no_fall f s k n)
  where
    go : (b : Bool) → eqb k (suc n) ≡ b → (k ≤ n → f k ≤ f n) → f k ≤ f (suc n)
    go true e less = rw (eqb-true k (suc n) e) (omega arith)
    go false e less = omega (arith, less (omega (arith, eqb-false k (suc n) e)), s n)

pub more_months : (y k n : ℕ) → k ≤ n → days_of_months y k ≤ days_of_months y n
unfolding days_of_months
more_months y = no_fall (days_of_months y) (λ k. omega arith)

pub more_years : (k n : ℕ) → k ≤ n → days_of_years k ≤ days_of_years n
unfolding days_of_years
more_years = no_fall days_of_years (λ k. omega arith)

-- February has a day more in every fourth year
pub february_days_lem : (y : ℕ) → february_days y ≡ 28 + (1 - y % 4)
unfolding february_days
february_days_lem y = go (eqb (y % 4) 0) refl
  where
    go : (b : Bool) → eqb (y % 4) 0 ≡ b → cond b 29 28 ≡ 28 + (1 - y % 4)
    go true e = omega (arith, eqb-true (y % 4) 0 e)
    go false e = omega (arith, eqb-false (y % 4) 0 e)

pub days_of_years_lem : (n : ℕ) → days_of_years n ≡ n * 365 + (n + 3) / 4
unfolding days_of_years days_of_months days_in
days_of_years_lem zero = refl
days_of_years_lem (suc n) = omega (arith, days_of_years_lem n, february_days_lem (2000 + n))

-- the days of the first months of a year of 365 days
abbrev pub month_starts : List ℕ
month_starts = 0 ∷ 31 ∷ 59 ∷ 90 ∷ 120 ∷ 151 ∷ 181 ∷ 212 ∷ 243 ∷ 273 ∷ 304 ∷ 334 ∷ 365 ∷ []

-- with February's days come those that it has over 28
pub before_march : (y k : ℕ) → k < 2 → days_of_months y k ≡ get_or month_starts k 0
unfolding days_of_months days_in FirstOf
before_march y = at_first (λ k. days_of_months y k ≡ get_or month_starts k 0) 2 (omega arith)

pub from_march : (y k : ℕ) → k < 13 → 2 ≤ k → days_of_months y k ≡ get_or month_starts k 0 + (february_days y - 28)
unfolding days_of_months days_in FirstOf
from_march y =
    at_first (λ k. 2 ≤ k → days_of_months y k ≡ get_or month_starts k 0 + (february_days y - 28)) 13 (omega (arith, february_days_lem y))

-- there is no month after the twelfth
no_month : (y k : ℕ) → 12 ≤ k → days_in y (suc k) ≡ 0
unfolding days_in
no_month y k h = rw (sub-one, get_or-eq_default)

pub no_more_months : (y k : ℕ) → 12 ≤ k → days_of_months y k ≡ days_of_months y 12
unfolding days_of_months
no_more_months y zero h = absurd (omega arith)
no_more_months y (suc k) h = go (leb 12 k) refl (no_more_months y k)
  where
    go : (b : Bool) → leb 12 k ≡ b → (12 ≤ k → days_of_months y k ≡ days_of_months y 12) → days_of_months y (suc k) ≡ days_of_months y 12
    go true e less = let l = leb-true 12 k e in omega (arith, less l, no_month y k l)
    go false e less = let l : k ≡ 11 = omega (arith, leb-false 12 k e) in rw l

-- a year has 366 days at most
pub days_of_year : (y k : ℕ) → days_of_months y k ≤ 366
unfolding days_of_months days_in
days_of_year y k = go (leb 12 k) refl
  where
    whole : days_of_months y 12 ≤ 366
    whole = omega (arith, february_days_lem y)

    go : (b : Bool) → leb 12 k ≡ b → days_of_months y k ≤ 366
    go true e = rw (no_more_months y k (leb-true 12 k e)) whole
    go false e = omega (arith, whole, more_months y k 12 (omega (arith, leb-false 12 k e)))
