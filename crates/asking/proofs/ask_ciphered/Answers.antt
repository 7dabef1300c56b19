-- `asking::ask_ciphered` meets its contract.
use mathlib.Core.Path.{refl}
use Rattle.protocol.specs.Rulings.{tag_not_permitted}
use Rattle.asking.proofs.ask_ciphered.Goals as goal

pub returns-in-Verification : goal.returns-in-Verification
returns-in-Verification c =
    rw (c.alone.ensures, c.in-Verification.is) (c.except.ensures c.args.meter.line tag_not_permitted refl (λ d. refl) c.args.meter.body)

pub returns-in-Ciphering : goal.returns-in-Ciphering
returns-in-Ciphering c =
    rw c.in-Ciphering.is c.ask_enclosed.ensures
