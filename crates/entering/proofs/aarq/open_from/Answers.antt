-- `entering::aarq::open_from` meets its contract.
use Rattle.entering.proofs.aarq.open_from.Goals as goal

pub returns-in-Verification : goal.returns-in-Verification
returns-in-Verification c b =
    rw c.in-Verification.is (rw c.in-Verification.is at (c.reject_aarq.ensures b))

pub returns-in-Ciphering : goal.returns-in-Ciphering
returns-in-Ciphering c b =
    rw c.in-Ciphering.is (c.open_request.ensures b)
