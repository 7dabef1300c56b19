-- `image_write::parts::ClockWritten::put` meets its contract.
use native.Mathlib.Omega.{arith}
use Rattle.image.specs.Layout.{clock_part}
use Rattle.image.specs.Sizes.{sizes}
use Rattle.image_write.proofs.PutLaws.{put_block, put_fields}
use Rattle.std.proofs.Common.{arith}
use Rattle.image_write.proofs.parts.ClockWritten.put.Goals as goal

pub returns : goal.returns
unfolding clock_part
returns c = put_fields _ _ (put_block c.put_array.ensures)

pub put_array-requires : goal.put_array-requires
put_array-requires c = let z = sizes in (omega arith, omega arith)
