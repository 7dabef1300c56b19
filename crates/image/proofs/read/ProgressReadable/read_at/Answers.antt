-- `image::read::ProgressReadable::read_at` meets its contract.
use Rattle.image.specs.Codec.{progress}
use Rattle.image.proofs.CodecLaws.{at_front}
use Rattle.image.proofs.read.ProgressReadable.read_at.Goals as goal

pub returns : goal.returns
unfolding progress
returns c = let a = c.args in record { is = rw (at_front a.s.now a.at) c.one_of.ensures }
