-- `picks::transfers::clear_picking` meets its contract.
use Rattle.picks.specs.Canonical.{cleared_picking}
use Rattle.picks.proofs.transfers.clear_picking.Goals as goal

pub returns-in-Whole : goal.returns-in-Whole
unfolding cleared_picking
returns-in-Whole c = rw c.in-Whole.is c.whole.ensures

pub returns-in-Dated : goal.returns-in-Dated
unfolding cleared_picking
returns-in-Dated c = rw c.in-Dated.is c.dated.ensures

pub returns-in-Numbered : goal.returns-in-Numbered
unfolding cleared_picking
returns-in-Numbered c = rw c.in-Numbered.is c.numbered.ensures
