-- `image::read::PartyReadable::read_at` meets its contract: its parts, each at its place.
use mathlib.Core.Path.{refl}
use native.Mathlib.Omega.{arith}
use Rattle.image.specs.Layout.{party_part}
use Rattle.image.proofs.CodecLaws.{got_block, got_both, got_fields}
use Rattle.image.specs.Sizes.{sizes}
use Rattle.image.proofs.read.PartyReadable.read_at.Goals as goal

pub returns : goal.returns
unfolding party_part
returns c = got_fields _ _ (got_both (got_block 8 (let z = sizes in omega arith) c.array_at-title.ensures) refl (got_both c.read_at-up.ensures sizes.flag_size (got_both c.read_at-phase.ensures sizes.phase_size (got_block 3 (let z = sizes in omega arith) c.array_at-agreed.ensures))))
