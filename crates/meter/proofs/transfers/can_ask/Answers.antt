-- `meter::transfers::can_ask` meets its contract: block transfer, then by the kind of the picking.
use mathlib.Core.Path.{sym, ◌∙◌}
use Rattle.picks.specs.Transfers.{picking_of}
use Rattle.meter.proofs.transfers.can_ask.Goals as goal

pub returns-then-not-takes_blocks : goal.returns-then-not-takes_blocks
returns-then-not-takes_blocks c = rw (sym c.takes_blocks.ensures ∙ c.if-not-takes_blocks.true)

pub returns-in-Whole : goal.returns-in-Whole
unfolding picking_of
returns-in-Whole c = rw (sym c.takes_blocks.ensures ∙ c.if-not-takes_blocks.false, c.in-Whole.is)

pub returns-in-Dated : goal.returns-in-Dated
unfolding picking_of
returns-in-Dated c = rw (sym c.takes_blocks.ensures ∙ c.if-not-takes_blocks.false, c.in-Dated.is) c.has_agreed.ensures

pub returns-in-Numbered : goal.returns-in-Numbered
unfolding picking_of
returns-in-Numbered c = rw (sym c.takes_blocks.ensures ∙ c.if-not-takes_blocks.false, c.in-Numbered.is) c.has_agreed-in-Numbered.ensures
