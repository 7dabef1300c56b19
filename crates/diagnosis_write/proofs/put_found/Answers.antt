use Rattle.wire_write.proofs.WroteLaws.{then}
use Rattle.diagnosis_write.proofs.put_found.Goals as goal

pub returns : goal.returns
returns c = then c.put_name-space.ensures.wrote (then c.put-last.ensures c.put_place.ensures)
