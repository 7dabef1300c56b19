-- `image_write::parts::RegistersWritten::put` meets its contract.
use Rattle.image.specs.Layout.{registers_part}
use Rattle.image_write.proofs.parts.RegistersWritten.put.Goals as goal

pub returns : goal.returns
unfolding registers_part
returns c = c.put_held.ensures
