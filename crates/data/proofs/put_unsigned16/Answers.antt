-- `data::put_unsigned16` meets its contract.
use Rattle.wire_write.proofs.WroteLaws.{then}
use Rattle.data.proofs.put_unsigned16.Goals as goal

pub returns : goal.returns
returns c =
    then c.put-a.ensures c.put_number.ensures
