-- `calendar::order::moment` meets its contract.
use Rattle.model.specs.Clocks.{moment}
use native.Mathlib.Omega.{arith}
use Rattle.calendar.proofs.order.moment.Goals as goal

pub returns : goal.returns
unfolding moment
returns c = omega arith
