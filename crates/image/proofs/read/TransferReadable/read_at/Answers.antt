-- `image::read::TransferReadable::read_at` meets its contract: its parts, each at its place.
use Rattle.image.specs.Layout.{transfer_part}
use Rattle.image.proofs.CodecLaws.{got_both, got_fields}
use Rattle.image.specs.Sizes.{sizes}
use Rattle.image.proofs.read.TransferReadable.read_at.Goals as goal

pub returns : goal.returns
unfolding transfer_part
returns c = got_fields _ _ (got_both c.read_at-progress.ensures sizes.progress_size (got_both c.read_at-picking.ensures sizes.picking_size c.read_at-block.ensures))
