-- `acse_write::put_accepted_head` meets its contract: its writes join.
use Rattle.acse.specs.Aare.{ciphered_aare_head}
use Rattle.wire_write.proofs.WroteLaws.{sized, then_array}
use Rattle.acse_write.proofs.put_accepted_head.Goals as goal

pub returns : goal.returns
unfolding ciphered_aare_head
returns c =
    then_array (then_array (then_array (then_array (then_array (then_array c.put_outcome-responding.ensures c.put_title-requirements.ensures) (sized c.put_all-mechanism.ensures)) c.put_mechanism-value.ensures) (sized c.put_all-lent.ensures)) c.put_array-information.ensures) (sized c.put_all.ensures)
