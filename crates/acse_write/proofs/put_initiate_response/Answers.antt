-- `acse_write::put_initiate_response` meets its contract: its writes join.
use borrow.Author.Rules.{rules}
use mathlib.Core.Path.{refl}
use Rattle.model.specs.Limits.{longest_received, told_size}
use Rattle.acse.specs.Initiate.{initiate_response}
use Rattle.wire.specs.Wrote.{WroteArray}
use Rattle.wire_write.proofs.WroteLaws.{sized, then_array}
use Rattle.acse_write.proofs.put_initiate_response.Goals as goal

pub returns : goal.returns
unfolding initiate_response told_size longest_received
returns c =
    let three : WroteArray 3 _ _ _ _ _ = record { wrote = c.put_all-size.ensures; sized = search rules } in
    then_array (then_array (then_array (sized c.put_all-services.ensures) three) (record { wrote = c.put_number-name.ensures; sized = refl })) (sized c.put_all.ensures)
