-- `picks::transfers::after_block` meets its contract.
use Rattle.picks.specs.Transfers.{transfer_of}
use Rattle.picks.proofs.transfers.after_block.Goals as goal

pub returns-then-last : goal.returns-then-last
unfolding transfer_of
returns-then-last c = rw (c.no_transfer.ensures, c.if-last.true)

pub returns-else-last : goal.returns-else-last
unfolding transfer_of
returns-else-last c = rw (c.running.ensures, c.if-last.false)
