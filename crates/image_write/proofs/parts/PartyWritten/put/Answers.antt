-- `image_write::parts::PartyWritten::put` meets its contract: its parts in a row.
use native.Mathlib.Omega.{arith}
use Rattle.image.specs.Layout.{party_part}
use Rattle.image.specs.Sizes.{sizes}
use Rattle.image_write.proofs.PutLaws.{put_block, put_both, put_fields}
use Rattle.std.proofs.Common.{arith}
use Rattle.image_write.proofs.parts.PartyWritten.put.Goals as goal

pub returns : goal.returns
unfolding party_part
returns c =
    put_fields _ _ (put_both (put_block c.put_array-a.ensures) (put_both c.put-b.ensures (put_both c.put-c.ensures (put_block c.put_array.ensures))))

pub put_array-a-requires : goal.put_array-a-requires
put_array-a-requires c = let z = sizes in (omega arith, omega arith)

pub put-b-requires : goal.put-b-requires
put-b-requires c = let z = sizes in omega arith

pub put-c-requires : goal.put-c-requires
put-c-requires c = let z = sizes in omega arith

pub put_array-requires : goal.put_array-requires
put_array-requires c = let z = sizes in (omega arith, omega arith)
