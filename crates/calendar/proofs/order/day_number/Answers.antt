-- `calendar::order::day_number` meets its contract.
use mathlib.Core.Path.{◌∙◌}
use Prim.Native.Nat.{◌<◌, ◌≤◌}
use lib.ListN.{get_or}
use borrow.Author.Rules.{rules}
use Rattle.model.specs.Clocks.{day_number}
use Rattle.model.proofs.MomentLaws.{days_of_years_lem, days_of_year}
use native.Mathlib.Omega.{arith}
use Rattle.calendar.proofs.order.day_number.Goals as goal

pub overflow_add-result-2 : goal.overflow_add-result-2
overflow_add-result-2 c =
    let years = c.days_of_years.ensures ∙ days_of_years_lem _ in
    let months : c.days_of_months.result ≤ 366 = rw c.days_of_months.ensures (days_of_year _ _) in
    let b = c.args.clock.bytes in
    let high : get_or b 0 0 < 256 = search rules in
    let low : get_or b 1 0 < 256 = search rules in
    let day : get_or b 3 0 < 256 = search rules in
    omega arith

pub overflow_add-result : goal.overflow_add-result
overflow_add-result c = let all = overflow_add-result-2 c in omega arith

pub returns : goal.returns
unfolding day_number
returns c = cc
