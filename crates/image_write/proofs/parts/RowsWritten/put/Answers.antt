-- `image_write::parts::RowsWritten::put` meets its contract.
use Rattle.image.specs.Layout.{rows_part}
use Rattle.image_write.proofs.parts.RowsWritten.put.Goals as goal

pub returns : goal.returns
unfolding rows_part
returns c = c.put_held.ensures
