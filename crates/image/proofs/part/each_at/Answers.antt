-- `image::part::each_at` meets its contract: every place is read.
use Rattle.image.proofs.LoopLaws.{firsts_all}
use Rattle.image.proofs.part.each_at.Goals as goal

pub returns : goal.returns
returns g c = firsts_all c.firsts_at.ensures
