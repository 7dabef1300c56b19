-- `p2::converse::carry` meets its contract.
use mathlib.Core.Path.{refl, sym, ◌∙◌}
use Rattle.protocol.specs.Rulings.{data_while_down}
use Rattle.protocol.specs.Decide.{carried}
use Rattle.p2.proofs.converse.carry.Goals as goal

pub returns-then-not-is_up : goal.returns-then-not-is_up
unfolding carried
returns-then-not-is_up c =
    rw (c.alone.ensures, sym c.is_up.ensures ∙ c.if-not-is_up.true) (c.refuse.ensures data_while_down refl c.args.meter.body)

pub returns : goal.returns
unfolding carried
returns c =
    rw (sym c.is_up.ensures ∙ c.if-not-is_up.false) c.converse.ensures
