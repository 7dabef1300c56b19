-- `image::read::MeterReadable::read_at` meets its contract: its parts, each at its place.
use Rattle.image.specs.Layout.{meter_part}
use Rattle.image.proofs.CodecLaws.{got_both, got_fields}
use Rattle.image.specs.Sizes.{sizes}
use Rattle.image.proofs.read.MeterReadable.read_at.Goals as goal

pub returns : goal.returns
unfolding meter_part
returns c = got_fields _ _ (got_both c.read_at.ensures sizes.line_size c.read_at-2.ensures)
