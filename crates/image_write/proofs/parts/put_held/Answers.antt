-- `image_write::parts::put_held` meets its contract: its parts in a row.
use Rattle.image_write.proofs.PutLaws.{put_both, put_fields}
use Rattle.image_write.proofs.parts.put_held.Goals as goal

pub returns : goal.returns
returns g c = put_fields _ _ (put_both c.put-next.ensures c.put_each.ensures)
