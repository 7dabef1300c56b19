-- `image::check::BoolTested::is_taken` meets its contract.
use Rattle.image.specs.Codec.{flag}
use Rattle.image.proofs.CodecLaws.{at_front}
use Rattle.image.proofs.check.BoolTested.is_taken.Goals as goal

pub returns : goal.returns
unfolding flag
returns c = let a = c.args in rw (at_front a.s.now a.at)
