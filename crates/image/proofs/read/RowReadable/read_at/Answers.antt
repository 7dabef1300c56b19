-- `image::read::RowReadable::read_at` meets its contract: its parts, each at its place.
use mathlib.Core.Path.{refl}
use Rattle.image.specs.Layout.{row_part}
use Rattle.image.proofs.CodecLaws.{got_both, got_fields}
use Rattle.image.specs.Sizes.{sizes}
use Rattle.image.proofs.read.RowReadable.read_at.Goals as goal

pub returns : goal.returns
unfolding row_part
returns c = got_fields _ _ (got_both c.read_at-number.ensures refl (got_both c.read_at-clock.ensures sizes.clock_size (got_both c.read_at-count.ensures refl c.each_at-cells.ensures)))
