-- The feedback's rule is one test, computed over the whole table.
use mathlib.Core.Path.{refl}
use Rattle.gf2.specs.Shift.{step, steps}
use Rattle.ghash.specs.Product.{R}
use Rattle.ghash.proofs.feedback.Goals as goal

pub returns : goal.returns
unfolding steps step R
returns c = record { places = refl; rule = refl }
