-- The key schedule is held, and the subkey made of it.
use mathlib.Core.Path.{ap, ap₂, ◌∙◌}
use Rattle.gcm.specs.Gcm.{hash_key, ready}
use Rattle.gcm.specs.Calls.{under}
use Rattle.gcm.proofs.ready.Goals as goal

pub returns : goal.returns
unfolding ready
returns c =
    ap₂ under c.round_keys-rounds.ensures (c.hash_key-subkey.ensures ∙ ap hash_key (c.schedule.ensures ∙ c.round_keys-rounds.ensures))
