-- `axdr::value_end` meets its contract.
use Rattle.axdr.specs.Values.{greatest_depth, value_end}
use Rattle.axdr.proofs.value_end.Goals as goal

pub returns : goal.returns
unfolding value_end greatest_depth
returns c = c.value_within.ensures
