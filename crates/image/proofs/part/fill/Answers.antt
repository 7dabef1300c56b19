-- `image::part::fill` meets its contract: the parts so far are read.
use mathlib.Core.Path.{refl, sym, ◌∙◌}
use Rattle.image.proofs.LoopLaws.{getting_none, getting_more, getting_firsts}
use Rattle.image.proofs.part.fill.Goals as goal

pub loop-i-init : goal.loop-i-init
loop-i-init g c = getting_none refl

pub loop-i-preserved : goal.loop-i-preserved
loop-i-preserved g c = getting_more c.loop-i.invariant (g.met.T.Part.sized ∙ sym c.SIZE.ensures) c.requires.fits c.loop-i-test.true c.read_at.ensures

pub returns : goal.returns
returns g c = getting_firsts c.loop-i.invariant c.loop-i-test.false
