-- `owner_calls::set_columns` meets its contract.
use mathlib.Core.Path.{ap}
use mathlib.Core.Bool.{Bool}
use Rattle.owner_calls.specs.Refusals.{fault_of}
use Rattle.owner_calls.proofs.GivenLaws.{columns_given}
use Rattle.owner_calls.proofs.CallLaws.{owner_called}
use Rattle.owner_calls.proofs.set_columns.Goals as goal

pub returns-clause-called : goal.returns-clause-called
returns-clause-called c =
    owner_called _ _ (ap (λ (b : Bool). fault_of b 18) c.are_names.ensures) c.in_ok-meter.ensures
    (λ _. columns_given c.names_in-items.ensures c.set_columns.ensures) c.end.ensures.called
