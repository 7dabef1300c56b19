-- `calendar::order::days_of_years` meets its contract.
use Rattle.model.proofs.MomentLaws.{days_of_years_lem}
use native.Mathlib.Omega.{arith}
use Rattle.calendar.proofs.order.days_of_years.Goals as goal

pub returns : goal.returns
returns c = omega (arith, days_of_years_lem c.args.years)
