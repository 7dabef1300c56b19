-- `image::meter_in` meets its contract: by the length.
use mathlib.Core.Path.{sym, ◌∙◌}
use Rattle.image.proofs.ImageLaws.{no_meter, meter_there}
use Rattle.image.specs.Sizes.{sizes}
use Rattle.image.proofs.meter_in.Goals as goal

pub returns-then-s-ne-SIZE : goal.returns-then-s-ne-SIZE
returns-then-s-ne-SIZE c = c.blank_meter.ensures ∙ sym (no_meter _ (λ e. c.if-s-ne-SIZE.true (e ∙ sizes.image_size_lem)))

pub returns : goal.returns
returns c = meter_there _ (c.if-s-ne-SIZE.false ∙ sym sizes.image_size_lem) c.read_at.ensures
