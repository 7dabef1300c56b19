-- `image::read::PickingKindReadable::read_at` meets its contract.
use Rattle.image.specs.Codec.{picking_kind}
use Rattle.image.proofs.CodecLaws.{at_front}
use Rattle.image.proofs.read.PickingKindReadable.read_at.Goals as goal

pub returns : goal.returns
unfolding picking_kind
returns c = let a = c.args in record { is = rw (at_front a.s.now a.at) c.one_of.ensures }
