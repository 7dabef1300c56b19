-- `image_write::parts::TransferWritten::put` meets its contract: its parts in a row.
use native.Mathlib.Omega.{arith}
use Rattle.image.specs.Layout.{transfer_part}
use Rattle.image.specs.Sizes.{sizes}
use Rattle.image_write.proofs.PutLaws.{put_both, put_fields}
use Rattle.std.proofs.Common.{arith}
use Rattle.image_write.proofs.parts.TransferWritten.put.Goals as goal

pub returns : goal.returns
unfolding transfer_part
returns c =
    put_fields _ _ (put_both c.put-a.ensures (put_both c.put-b.ensures c.put.ensures))

pub put-a-requires : goal.put-a-requires
put-a-requires c = let z = sizes in omega arith

pub put-b-requires : goal.put-b-requires
put-b-requires c = let z = sizes in omega arith

pub put-requires : goal.put-requires
put-requires c = let z = sizes in omega arith
