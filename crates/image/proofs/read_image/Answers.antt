-- `image::read_image` meets its contract: the status of the bytes decides.
use mathlib.Core.Path.{sym, ◌∙◌}
use Rattle.image.proofs.ImageLaws.{whole_read}
use Rattle.image.proofs.read_image.Goals as goal

pub returns : goal.returns
returns c = whole_read _ (sym c.status_of.ensures ∙ c.in_ok-status_of.was) c.meter_in.ensures
