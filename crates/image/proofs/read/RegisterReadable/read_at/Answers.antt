-- `image::read::RegisterReadable::read_at` meets its contract: its parts, each at its place.
use mathlib.Core.Path.{refl}
use Rattle.image.specs.Layout.{register_part}
use Rattle.image.proofs.CodecLaws.{got_both, got_fields}
use Rattle.image.specs.Sizes.{sizes}
use Rattle.image.proofs.read.RegisterReadable.read_at.Goals as goal

pub returns : goal.returns
unfolding register_part
returns c = got_fields _ _ (got_both c.read_at-name.ensures sizes.name_size (got_both c.read_at-readable.ensures sizes.flag_size (got_both c.read_at-scaler.ensures refl (got_both c.read_at-unit.ensures refl c.read_at-value.ensures))))
