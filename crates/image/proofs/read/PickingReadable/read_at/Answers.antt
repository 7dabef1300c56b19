-- `image::read::PickingReadable::read_at` meets its contract: its parts, each at its place.
use mathlib.Core.Path.{refl}
use Rattle.image.specs.Layout.{picking_part}
use Rattle.image.proofs.CodecLaws.{got_both, got_fields}
use Rattle.image.specs.Sizes.{sizes}
use Rattle.image.proofs.read.PickingReadable.read_at.Goals as goal

pub returns : goal.returns
unfolding picking_part
returns c = got_fields _ _ (got_both c.read_at-kind.ensures sizes.kind_size (got_both c.read_at-after.ensures sizes.clock_size (got_both c.read_at-until.ensures sizes.clock_size (got_both c.read_at-from.ensures refl c.read_at-to.ensures))))
