-- `image::read::U8Readable::read_at` meets its contract.
use mathlib.Core.Path.{sym}
use Rattle.image.proofs.CodecLaws.{at_front}
use Rattle.image.proofs.read.U8Readable.read_at.Goals as goal

pub returns : goal.returns
returns c = let a = c.args in record { is = sym (at_front a.s.now a.at) }
