-- `material::proof_data` meets its contract: the three writes fill the array.
use native.Mathlib.Omega.{arith}
use lib.ListN.{length-append}
use Rattle.wire_write.proofs.WroteLaws.{then, full}
use Rattle.material.specs.Material.{proof_data}
use Rattle.material.proofs.proof_data.Goals as goal

pub returns : goal.returns
unfolding proof_data
returns c =
    full (then (then c.put-a.ensures c.put_array-b.ensures.wrote) c.put_array.ensures.wrote) (simp length-append (omega arith))
