-- `acse_write::put_outcome` meets its contract: its writes join.
use mathlib.Core.List.{append_assoc}
use Rattle.acse.specs.Aare.{outcome}
use Rattle.wire_write.proofs.WroteLaws.{sized, then_array}
use Rattle.acse_write.proofs.put_outcome.Goals as goal

pub returns : goal.returns
unfolding outcome
returns c =
    rw append_assoc (then_array (then_array (sized c.put_all-name.ensures) (rw c.context_name.ensures at c.put_name-results.ensures)) (sized c.put_all.ensures))
