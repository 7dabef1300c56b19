-- `calendar::order::days_of_months` meets its contract: its table is that of the laws, and no month follows the twelfth.
use mathlib.Core.Path.{◌≡◌, refl, sym, ap, ◌∙◌}
use mathlib.Core.Bool.{Bool, true, false}
use Prim.Native.Nat.{ℕ, min, ◌≤◌}
use native.Mathlib.Omega.{arith}
use lib.Dec.{leb}
use borrow.Author.Tests.{leb-true, leb-false}
use Rattle.model.specs.Clocks.{days_of_months}
use Rattle.model.proofs.MomentLaws.{no_more_months, february_days_lem, before_march, from_march, days_of_year}
use Rattle.calendar.proofs.order.days_of_months.Goals as goal

capped : (year months : ℕ) → days_of_months year (min months 12) ≡ days_of_months year months
capped year months = go (leb months 12) refl
  where
    go : (b : Bool) → leb months 12 ≡ b → days_of_months year (min months 12) ≡ days_of_months year months
    go true e = ap (days_of_months year) (omega (arith, leb-true months 12 e))
    go false e =
        let far : 12 ≤ months = omega (arith, leb-false months 12 e) in
        let top : min months 12 ≡ 12 = omega arith in
        ap (days_of_months year) top ∙ sym (no_more_months year months far)

pub returns-then-months-lt2 : goal.returns-then-months-lt2
returns-then-months-lt2 c =
    let a = c.args in
    let m = c.min-months in
    omega (arith, before_march a.year m.result (omega arith), ap (days_of_months a.year) m.ensures, capped a.year a.months)

pub overflow_sub-result : goal.overflow_sub-result
overflow_sub-result c = omega (arith, february_days_lem c.args.year)

pub overflow_add-result : goal.overflow_add-result
overflow_add-result c =
    let a = c.args in
    let m = c.min-months in
    omega (arith, from_march a.year m.result (omega arith) (omega arith), days_of_year a.year m.result)

pub returns : goal.returns
returns c =
    let a = c.args in
    let m = c.min-months in
    omega (arith, from_march a.year m.result (omega arith) (omega arith), ap (days_of_months a.year) m.ensures, capped a.year a.months)
