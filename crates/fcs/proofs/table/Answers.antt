-- The table's rule is one test, computed over the whole table.
use mathlib.Core.Path.{refl}
use Rattle.gf2.specs.Shift.{step, steps}
use Rattle.fcs.specs.Check.{polynomial}
use Rattle.fcs.proofs.table.Goals as goal

pub returns : goal.returns
unfolding steps step polynomial
returns c = record { places = refl; rule = refl }
