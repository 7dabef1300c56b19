-- `meter::Meter::cleared` meets its contract.
use Rattle.meter.proofs.CanonicalLaws.{meter_clear}
use Rattle.meter.proofs.Meter.cleared.Goals as goal

pub returns : goal.returns
returns c = meter_clear _ _ _ c.clear_line.ensures c.clear_body.ensures
