-- `picks::transfers::rows_allow` meets its contract: by how far it has come.
use mathlib.Core.Logic.{inl, inr}
use Rattle.model.specs.Soundness.{rows_allow}
use Rattle.picks.specs.Transfers.{transfer_of}
use Rattle.picks.proofs.transfers.rows_allow.Goals as goal

pub returns-in-Idle : goal.returns-in-Idle
unfolding transfer_of rows_allow
returns-in-Idle c = λ s e. elim c.in-Idle.is [ inl p ↦ rw p | inr p ↦ rw p ]

pub returns-in-Running : goal.returns-in-Running
unfolding transfer_of
returns-in-Running c = λ s e. rw c.in-Running.is (c.runs_on.ensures s e)
