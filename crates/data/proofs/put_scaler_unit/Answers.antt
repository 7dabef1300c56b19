-- `data::put_scaler_unit` meets its contract.
use Rattle.wire_write.proofs.WroteLaws.{then}
use Rattle.data.proofs.put_scaler_unit.Goals as goal

pub returns : goal.returns
returns c =
    then (then (then c.put_all-a.ensures c.put-b.ensures) c.put-c.ensures) c.put.ensures
