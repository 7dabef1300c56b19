-- `image::read::CountersReadable::read_at` meets its contract: its parts, each at its place.
use mathlib.Core.Path.{refl}
use Rattle.image.specs.Layout.{counters_part}
use Rattle.image.proofs.CodecLaws.{got_both, got_fields}
use Rattle.image.proofs.read.CountersReadable.read_at.Goals as goal

pub returns : goal.returns
unfolding counters_part
returns c = got_fields _ _ (got_both c.read_at-accepted.ensures refl c.read_at-sent.ensures)
