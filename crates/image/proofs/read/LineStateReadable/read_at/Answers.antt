-- `image::read::LineStateReadable::read_at` meets its contract: its parts, each at its place.
use mathlib.Core.Path.{refl}
use native.Mathlib.Omega.{arith}
use Rattle.image.specs.Layout.{line_part}
use Rattle.image.proofs.CodecLaws.{got_block, got_both, got_fields}
use Rattle.image.specs.Sizes.{sizes}
use Rattle.image.proofs.read.LineStateReadable.read_at.Goals as goal

pub returns : goal.returns
unfolding line_part
returns c = got_fields _ _ (got_both (got_block 8 (let z = sizes in omega arith) c.array_at-title.ensures) refl (got_both c.read_at-verification.ensures sizes.party_size (got_both c.read_at-han.ensures sizes.cipher_party_size c.read_at-p5.ensures)))
