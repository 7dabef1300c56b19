-- `image::read::RowsReadable::read_at` meets its contract.
use Rattle.image.specs.Layout.{rows_part}
use Rattle.image.proofs.read.RowsReadable.read_at.Goals as goal

pub returns : goal.returns
unfolding rows_part
returns c = c.held_at.ensures
