-- `image_write::parts::RowWritten::put` meets its contract: its parts in a row.
use native.Mathlib.Omega.{arith}
use Rattle.image.specs.Layout.{row_part}
use Rattle.image.specs.Sizes.{sizes}
use Rattle.image_write.proofs.PutLaws.{put_both, put_fields}
use Rattle.std.proofs.Common.{arith}
use Rattle.image_write.proofs.parts.RowWritten.put.Goals as goal

pub returns : goal.returns
unfolding row_part
returns c =
    put_fields _ _ (put_both c.put-a.ensures (put_both c.put-b.ensures (put_both c.put-c.ensures c.put_each.ensures)))

pub put-a-requires : goal.put-a-requires
put-a-requires c = let z = sizes in omega arith

pub put-b-requires : goal.put-b-requires
put-b-requires c = let z = sizes in omega arith

pub put-c-requires : goal.put-c-requires
put-c-requires c = let z = sizes in omega arith

pub put_each-requires : goal.put_each-requires
put_each-requires c = let z = sizes in omega arith
