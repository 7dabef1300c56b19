-- `material::associated_data` meets its contract: the two writes fill the array.
use native.Mathlib.Omega.{arith}
use Rattle.wire_write.proofs.WroteLaws.{then, full}
use Rattle.material.specs.Material.{associated_data}
use Rattle.material.proofs.associated_data.Goals as goal

pub returns : goal.returns
unfolding associated_data
returns c =
    full (then c.put-at.ensures c.put_array.ensures.wrote) (omega arith)
