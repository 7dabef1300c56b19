-- `picks::transfers::broken` meets its contract.
use mathlib.Core.Logic.{inl, inr}
use Rattle.picks.specs.Canonical.{broken_transfer}
use Rattle.picks.proofs.transfers.broken.Goals as goal

pub returns-in-Idle : goal.returns-in-Idle
unfolding broken_transfer
returns-in-Idle c = elim c.in-Idle.is [ inl e ↦ rw e | inr e ↦ rw e ]

pub returns-in-Running : goal.returns-in-Running
unfolding broken_transfer
returns-in-Running c = rw (c.in-Running.is, c.ended_transfer.ensures)
