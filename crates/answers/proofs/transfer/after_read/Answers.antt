-- `answers::transfer::after_read` meets its contract.
use Rattle.model.proofs.ClientLaws.{only_han}
use Rattle.body.specs.View.{body_of}
use Rattle.answers.proofs.transfer.after_read.Goals as goal

pub returns-in-Verification : goal.returns-in-Verification
returns-in-Verification c x e b = rw (c.in-Verification.is, c.unchanged.ensures)

pub returns-in-Ciphering-Han : goal.returns-in-Ciphering-Han
unfolding body_of
returns-in-Ciphering-Han c x e b = rw (c.in-Ciphering-Han.is, only_han c.in-Ciphering-Han.field-0, e, c.leaves.ensures)
