-- `image::part::held_at` meets its contract: its parts, each at its place.
use mathlib.Core.Path.{refl}
use Rattle.image.proofs.CodecLaws.{got_both, got_fields}
use Rattle.image.proofs.part.held_at.Goals as goal

pub returns : goal.returns
returns g c = got_fields _ _ (got_both c.read_at.ensures refl c.each_at.ensures)
