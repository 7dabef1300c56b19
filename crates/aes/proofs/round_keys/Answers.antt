-- What is held of the key schedule is read back as it was.
use mathlib.Core.Path.{ap, ◌∙◌}
use Rattle.aes.specs.Held.{held_schedule, schedule_of}
use Rattle.aes.proofs.HeldLaws.{schedule_back}
use Rattle.aes.proofs.round_keys.Goals as goal

pub returns : goal.returns
returns c =
    ap schedule_of (c.held_schedule.ensures ∙ ap held_schedule c.expand_key.ensures) ∙ schedule_back c.args.key
