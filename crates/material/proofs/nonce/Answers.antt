-- `material::nonce` meets its contract: the two writes fill the array.
use native.Mathlib.Omega.{arith}
use Rattle.wire_write.proofs.WroteLaws.{then, full}
use lib.ListN.{length-append}
use Rattle.material.specs.Material.{nonce}
use Rattle.material.proofs.nonce.Goals as goal

pub returns : goal.returns
unfolding nonce
returns c =
    full (then c.put_array-at.ensures.wrote c.put_number.ensures) (simp length-append (omega arith))
