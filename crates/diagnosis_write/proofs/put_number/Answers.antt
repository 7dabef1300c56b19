use Rattle.wire_write.proofs.WroteLaws.{then}
use Rattle.diagnosis_write.proofs.put_number.Goals as goal

pub returns : goal.returns
returns c = then c.put_decimal-space.ensures c.put.ensures
