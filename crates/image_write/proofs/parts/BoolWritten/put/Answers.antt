-- `image_write::parts::BoolWritten::put` meets its contract.
use Rattle.image_write.proofs.PutLaws.{put_flag}
use Rattle.image_write.proofs.parts.BoolWritten.put.Goals as goal

pub returns : goal.returns
returns c = put_flag _ c.put.ensures
