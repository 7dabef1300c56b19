-- `owner_calls::set_value` meets its contract.
use mathlib.Core.Path.{refl}
use Rattle.owner_calls.proofs.CallLaws.{owner_called, taken_whole}
use Rattle.owner_calls.proofs.set_value.Goals as goal

pub returns-clause-called : goal.returns-clause-called
returns-clause-called c =
    owner_called _ _ refl c.in_ok-meter.ensures
    (λ g. rw (c.array_at-bytes.ensures, taken_whole 6 17 c.args.name.now refl g) at c.set_value.ensures) c.end.ensures.called
