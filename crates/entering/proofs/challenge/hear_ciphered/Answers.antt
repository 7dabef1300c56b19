-- `entering::challenge::hear_ciphered` meets its contract.
use mathlib.Core.Path.{refl}
use Rattle.protocol.specs.Rulings.{tag_not_permitted}
use Rattle.entering.proofs.challenge.hear_ciphered.Goals as goal

pub returns-in-Verification : goal.returns-in-Verification
returns-in-Verification c b =
    rw c.in-Verification.is (c.except.ensures c.args.line tag_not_permitted refl (λ d. refl) b)

pub returns-in-Ciphering : goal.returns-in-Ciphering
returns-in-Ciphering c b =
    rw c.in-Ciphering.is (c.hear_challenge.ensures b)
