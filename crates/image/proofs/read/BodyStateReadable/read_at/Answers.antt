-- `image::read::BodyStateReadable::read_at` meets its contract: its parts, each at its place.
use mathlib.Core.Path.{refl}
use native.Mathlib.Omega.{arith}
use Rattle.image.specs.Layout.{body_part}
use Rattle.image.proofs.CodecLaws.{got_block, got_both, got_fields}
use Rattle.image.specs.Sizes.{sizes}
use Rattle.image.proofs.read.BodyStateReadable.read_at.Goals as goal

pub returns : goal.returns
unfolding body_part
returns c =
    got_fields _ _ (got_both (got_block 16 (let z = sizes in omega arith) c.array_at-device.ensures) refl (got_both c.read_at-clock.ensures sizes.clock_size (got_both c.read_at-period.ensures refl (got_both c.read_at-number.ensures refl (got_both c.read_at-registers.ensures sizes.registers_size (got_both c.read_at-columns.ensures sizes.columns_size (got_both c.read_at-rows.ensures sizes.rows_size c.read_at-transfer.ensures)))))))
