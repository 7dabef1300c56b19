-- `acse_write::put_rejected` meets its contract: its writes join.
use Rattle.acse.specs.Aare.{rejected_aare}
use Rattle.wire_write.proofs.WroteLaws.{sized, then_array}
use Rattle.acse_write.proofs.put_rejected.Goals as goal

pub returns : goal.returns
unfolding rejected_aare
returns c =
    then_array c.put_outcome-information.ensures (sized c.put_all.ensures)
