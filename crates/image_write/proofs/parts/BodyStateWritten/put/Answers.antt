-- `image_write::parts::BodyStateWritten::put` meets its contract: its parts in a row.
use native.Mathlib.Omega.{arith}
use Rattle.image.specs.Codec.{fields}
use Rattle.image.specs.Layout.{body_part}
use Rattle.image.specs.Sizes.{sizes}
use Rattle.image_write.proofs.PutLaws.{put_block, put_both, put_fields, room_left}
use Rattle.std.proofs.Common.{arith}
use Rattle.image_write.proofs.parts.BodyStateWritten.put.Goals as goal

-- what is left of the room, part by part: the first of them lies too far back for omega to find
pub put-requires : goal.put-requires
unfolding body_part fields
put-requires c =
    room_left _ c.put-g.ensures (room_left _ c.put-f.ensures (room_left _ c.put-e.ensures (room_left _ c.put-d.ensures (room_left _ c.put-c.ensures (room_left _ c.put-b.ensures (room_left _ (put_block c.put_array-a.ensures) (let z = sizes in omega (arith, c.requires))))))))

pub returns : goal.returns
unfolding body_part
returns c =
    put_fields _ _ (put_both (put_block c.put_array-a.ensures) (put_both c.put-b.ensures (put_both c.put-c.ensures (put_both c.put-d.ensures (put_both c.put-e.ensures (put_both c.put-f.ensures (put_both c.put-g.ensures c.put.ensures)))))))

pub put_array-a-requires : goal.put_array-a-requires
put_array-a-requires c = let z = sizes in (omega arith, omega arith)

pub put-b-requires : goal.put-b-requires
put-b-requires c = let z = sizes in omega arith

pub put-c-requires : goal.put-c-requires
put-c-requires c = let z = sizes in omega arith

pub put-d-requires : goal.put-d-requires
put-d-requires c = let z = sizes in omega arith

pub put-e-requires : goal.put-e-requires
put-e-requires c = let z = sizes in omega arith

pub put-f-requires : goal.put-f-requires
put-f-requires c = let z = sizes in omega arith

pub put-g-requires : goal.put-g-requires
put-g-requires c = let z = sizes in omega arith
