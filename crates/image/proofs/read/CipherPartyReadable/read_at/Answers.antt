-- `image::read::CipherPartyReadable::read_at` meets its contract: its parts, each at its place.
use mathlib.Core.Path.{refl}
use native.Mathlib.Omega.{arith}
use Rattle.image.specs.Layout.{cipher_party_part}
use Rattle.image.proofs.CodecLaws.{got_block, got_both, got_fields}
use Rattle.image.specs.Sizes.{sizes}
use Rattle.image.proofs.read.CipherPartyReadable.read_at.Goals as goal

pub returns : goal.returns
unfolding cipher_party_part
returns c = got_fields _ _ (got_both c.read_at-party.ensures sizes.party_size (got_both (got_block 16 (let z = sizes in omega arith) c.array_at-key.ensures) refl (got_both (got_block 8 (let z = sizes in omega arith) c.array_at-client.ensures) refl (got_both (got_block 8 (let z = sizes in omega arith) c.array_at-meter.ensures) refl c.read_at-counters.ensures))))
