-- `image::read::NameReadable::read_at` meets its contract.
use native.Mathlib.Omega.{arith}
use Rattle.image.specs.Layout.{name_part}
use Rattle.image.proofs.CodecLaws.{got_block, got_fields}
use Rattle.image.specs.Sizes.{sizes}
use Rattle.image.proofs.read.NameReadable.read_at.Goals as goal

pub returns : goal.returns
unfolding name_part
returns c = got_fields _ _ (got_block 6 (let z = sizes in omega arith) c.array_at.ensures)
