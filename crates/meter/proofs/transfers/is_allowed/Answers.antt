-- `meter::transfers::is_allowed` meets its contract: by how far it has come.
use Rattle.model.specs.Soundness.{allowed}
use Rattle.picks.specs.Transfers.{transfer_of}
use Rattle.meter.proofs.transfers.is_allowed.Goals as goal

pub returns-in-Idle : goal.returns-in-Idle
unfolding allowed transfer_of
returns-in-Idle c = rw c.in-Idle.is

pub returns-in-Running : goal.returns-in-Running
unfolding allowed transfer_of
returns-in-Running c = rw c.in-Running.is c.can_ask.ensures

pub returns-in-Ended : goal.returns-in-Ended
unfolding allowed transfer_of
returns-in-Ended c = rw c.in-Ended.is c.takes_blocks.ensures
