-- `image::read::ColumnsReadable::read_at` meets its contract.
use Rattle.image.specs.Layout.{columns_part}
use Rattle.image.proofs.read.ColumnsReadable.read_at.Goals as goal

pub returns : goal.returns
unfolding columns_part
returns c = c.held_at.ensures
