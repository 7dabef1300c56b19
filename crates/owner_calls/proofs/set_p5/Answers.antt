-- `owner_calls::set_p5` meets its contract.
use mathlib.Core.Path.{refl}
use Rattle.owner_calls.proofs.CallLaws.{owner_called}
use Rattle.owner_calls.proofs.set_p5.Goals as goal

pub returns-clause-called : goal.returns-clause-called
returns-clause-called c = owner_called _ _ refl c.in_ok-meter.ensures (λ _. c.set_p5.ensures) c.end.ensures.called
