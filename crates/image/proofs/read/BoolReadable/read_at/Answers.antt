-- `image::read::BoolReadable::read_at` meets its contract.
use Rattle.image.specs.Codec.{flag}
use Rattle.image.proofs.CodecLaws.{at_front}
use Rattle.image.proofs.read.BoolReadable.read_at.Goals as goal

pub returns : goal.returns
unfolding flag
returns c = let a = c.args in record { is = rw (at_front a.s.now a.at) }
