-- `entering::aarq::accept_from` meets its contract.
use Rattle.entering.proofs.aarq.accept_from.Goals as goal

pub returns-in-Verification : goal.returns-in-Verification
returns-in-Verification c b =
    rw c.in-Verification.is (c.accept_plain.ensures b)

pub returns-in-Ciphering : goal.returns-in-Ciphering
returns-in-Ciphering c b =
    rw c.in-Ciphering.is (rw c.in-Ciphering.is at (c.reject_aarq.ensures b))
