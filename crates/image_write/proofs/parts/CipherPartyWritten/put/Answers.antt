-- `image_write::parts::CipherPartyWritten::put` meets its contract: its parts in a row.
use native.Mathlib.Omega.{arith}
use Rattle.image.specs.Layout.{cipher_party_part}
use Rattle.image.specs.Sizes.{sizes}
use Rattle.image_write.proofs.PutLaws.{put_block, put_both, put_fields}
use Rattle.std.proofs.Common.{arith}
use Rattle.image_write.proofs.parts.CipherPartyWritten.put.Goals as goal

pub returns : goal.returns
unfolding cipher_party_part
returns c =
    put_fields _ _ (put_both c.put-a.ensures (put_both (put_block c.put_array-b.ensures) (put_both (put_block c.put_array-c.ensures) (put_both (put_block c.put_array-d.ensures) c.put.ensures))))

pub put-a-requires : goal.put-a-requires
put-a-requires c = let z = sizes in omega arith

pub put_array-b-requires : goal.put_array-b-requires
put_array-b-requires c = let z = sizes in (omega arith, omega arith)

pub put_array-c-requires : goal.put_array-c-requires
put_array-c-requires c = let z = sizes in (omega arith, omega arith)

pub put_array-d-requires : goal.put_array-d-requires
put_array-d-requires c = let z = sizes in (omega arith, omega arith)

pub put-requires : goal.put-requires
put-requires c = let z = sizes in omega arith
