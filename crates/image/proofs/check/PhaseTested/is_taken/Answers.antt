-- `image::check::PhaseTested::is_taken` meets its contract.
use Rattle.image.specs.Codec.{phase}
use Rattle.image.proofs.check.PhaseTested.is_taken.Goals as goal

pub returns : goal.returns
unfolding phase
returns c = c.is_below_three.ensures
