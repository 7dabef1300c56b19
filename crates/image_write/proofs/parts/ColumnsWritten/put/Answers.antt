-- `image_write::parts::ColumnsWritten::put` meets its contract.
use Rattle.image.specs.Layout.{columns_part}
use Rattle.image_write.proofs.parts.ColumnsWritten.put.Goals as goal

pub returns : goal.returns
unfolding columns_part
returns c = c.put_held.ensures
