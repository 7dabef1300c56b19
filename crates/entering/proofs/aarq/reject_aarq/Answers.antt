-- `entering::aarq::reject_aarq` meets its contract.
use mathlib.Core.Path.{refl}
use Rattle.acse.specs.Aare.{rejected_aare}
use Rattle.protocol.specs.Rulings.{aarq_not_accepted, apdu}
use Rattle.ending.proofs.Endings.{says_kept}
use Rattle.ending.specs.Inner.{meter_with}
use Rattle.entering.proofs.aarq.reject_aarq.Goals as goal

pub returns : goal.returns
returns c b =
    says_kept aarq_not_accepted (apdu c.args.head (rejected_aare c.args.client)) (meter_with c.args.line b) refl c.send_rejected-count.ensures
