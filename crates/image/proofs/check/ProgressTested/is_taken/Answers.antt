-- `image::check::ProgressTested::is_taken` meets its contract.
use Rattle.image.specs.Codec.{progress}
use Rattle.image.proofs.check.ProgressTested.is_taken.Goals as goal

pub returns : goal.returns
unfolding progress
returns c = c.is_below_three.ensures
