-- `envelope::challenge::put_proof` meets its contract: three writes, one after the other.
use Rattle.wire_write.proofs.WroteLaws.{then}
use Rattle.envelope.specs.Challenge.{proof_value}
use Rattle.envelope.proofs.challenge.put_proof.Goals as goal

pub returns : goal.returns
unfolding proof_value
returns c =
    rw (← c.nonce-n.ensures, ← c.proof_data-data.ensures, ← c.gmac-t.ensures)
    (then c.put_all-a.ensures (then c.put_number-b.ensures c.put_array.ensures.wrote))
