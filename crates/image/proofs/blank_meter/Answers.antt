-- `image::blank_meter` meets its contract.
use mathlib.Core.Path.{sym, ◌∙◌}
use Rattle.image.proofs.ImageLaws.{blank_is}
use Rattle.image.proofs.blank_meter.Goals as goal

pub returns : goal.returns
returns c = c.read_at.ensures.is ∙ sym blank_is
