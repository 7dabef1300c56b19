-- `acse_write::put_title` meets its contract: its writes join.
use Rattle.wire_write.proofs.WroteLaws.{sized, then_array}
use Rattle.acse_write.proofs.put_title.Goals as goal

pub returns : goal.returns
returns c =
    then_array (sized c.put_all-held.ensures) c.put_array.ensures
