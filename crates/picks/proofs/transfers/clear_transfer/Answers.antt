-- `picks::transfers::clear_transfer` meets its contract.
use Rattle.picks.specs.Canonical.{cleared_transfer}
use Rattle.picks.proofs.transfers.clear_transfer.Goals as goal

pub returns-in-Idle : goal.returns-in-Idle
unfolding cleared_transfer
returns-in-Idle c = rw c.in-Idle.is c.no_transfer.ensures

pub returns-in-Running : goal.returns-in-Running
unfolding cleared_transfer
returns-in-Running c = rw (c.in-Running.is, ← c.clear_picking.ensures) c.running.ensures

pub returns-in-Ended : goal.returns-in-Ended
unfolding cleared_transfer
returns-in-Ended c = rw c.in-Ended.is c.ended_transfer.ensures
