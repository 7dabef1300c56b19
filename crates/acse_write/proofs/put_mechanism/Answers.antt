-- `acse_write::put_mechanism` meets its contract: its writes join.
use Rattle.wire_write.proofs.WroteLaws.{sized, then_array}
use Rattle.acse_write.proofs.put_mechanism.Goals as goal

pub returns : goal.returns
returns c =
    then_array (sized c.put_all-name.ensures) (rw c.mechanism_name.ensures at c.put_name.ensures)
