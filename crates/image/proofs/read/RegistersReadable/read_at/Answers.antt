-- `image::read::RegistersReadable::read_at` meets its contract.
use Rattle.image.specs.Layout.{registers_part}
use Rattle.image.proofs.read.RegistersReadable.read_at.Goals as goal

pub returns : goal.returns
unfolding registers_part
returns c = c.held_at.ensures
