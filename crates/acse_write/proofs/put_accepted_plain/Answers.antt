-- `acse_write::put_accepted_plain` meets its contract: its writes join.
use Rattle.acse.specs.Aare.{plain_aare}
use Rattle.wire_write.proofs.WroteLaws.{sized, then_array}
use Rattle.acse_write.proofs.put_accepted_plain.Goals as goal

pub returns : goal.returns
unfolding plain_aare
returns c =
    then_array (then_array (then_array (then_array c.put_outcome-responding.ensures c.put_title-mechanism.ensures) c.put_mechanism-information.ensures) (sized c.put_all-response.ensures)) c.put_initiate_response.ensures
