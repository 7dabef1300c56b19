-- `diagnosis::requests::find_in_get` meets its contract.
use mathlib.Core.Path.{refl, ◌∙◌}
use Rattle.body.specs.View.{body_of}
use Rattle.meter.proofs.MeterLaws.{sound_body}
use Rattle.diagnosis.proofs.requests.find_in_get.Goals as goal

pub returns : goal.returns
returns c =
    let s = c.args in
    c.find_in_outcome.ensures c.read_attribute-outcome.ensures.starts s.query.name (body_of s.ready.meter.body) ∙ rw (c.selector_wrong.ensures s.apdu.now, c.read_attribute-outcome.ensures.means) refl

pub read_attribute-outcome-requires : goal.read_attribute-outcome-requires
read_attribute-outcome-requires c = sound_body c.args.ready.meter c.args.ready.is_sound
