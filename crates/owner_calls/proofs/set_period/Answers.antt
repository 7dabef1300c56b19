-- `owner_calls::set_period` meets its contract.
use mathlib.Core.Path.{refl, sym, ◌∙◌}
use Rattle.owner_calls.proofs.CallLaws.{meter_taken, owner_called}
use Rattle.owner_calls.proofs.set_period.Goals as goal

pub returns-clause-called : goal.returns-clause-called
returns-clause-called c = owner_called _ _ refl (meter_taken _ (sym c.status_of.ensures ∙ c.in_ok-status_of.was) c.meter_in-meter.ensures refl) (λ _. c.set_period.ensures) c.end.ensures.called
