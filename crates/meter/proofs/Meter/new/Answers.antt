-- `meter::Meter::new` meets its contract.
use Rattle.meter.proofs.CanonicalLaws.{fresh}
use Rattle.meter.proofs.Meter.new.Goals as goal

pub returns : goal.returns
returns c =
    fresh _ _ _ _ c.new_line.ensures c.new_body.ensures c.cleared.ensures
