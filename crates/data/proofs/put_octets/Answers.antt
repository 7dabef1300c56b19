-- `data::put_octets` meets its contract.
use Rattle.wire_write.proofs.WroteLaws.{then}
use Rattle.data.proofs.put_octets.Goals as goal

pub returns : goal.returns
returns c = then (then c.put-a.ensures c.put-b.ensures) c.put_all.ensures
