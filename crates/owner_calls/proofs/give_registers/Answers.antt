-- `owner_calls::give_registers` meets its contract.
use mathlib.Core.Path.{ap}
use mathlib.Core.Bool.{Bool}
use Rattle.owner_calls.specs.Refusals.{fault_of}
use Rattle.owner_calls.proofs.GivenLaws.{registers_given}
use Rattle.owner_calls.proofs.CallLaws.{owner_called}
use Rattle.owner_calls.proofs.give_registers.Goals as goal

pub returns-clause-called : goal.returns-clause-called
returns-clause-called c =
    owner_called _ _ (ap (λ (b : Bool). fault_of b 16) c.are_registers.ensures) c.in_ok-meter.ensures
    (λ _. registers_given c.registers_in-items.ensures c.give_registers.ensures) c.end.ensures.called
