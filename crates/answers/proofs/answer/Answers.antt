-- `answers::answer` meets its contract.
use Rattle.cosem.specs.Requests.{requested}
use Rattle.answers.proofs.answer.Goals as goal

pub returns-in-Asks : goal.returns-in-Asks
unfolding requested
returns-in-Asks c = rw c.in-Asks.is (rw c.name_in.ensures at c.answer_request.ensures)

pub returns-in-GoesOn : goal.returns-in-GoesOn
returns-in-GoesOn c = rw c.in-GoesOn.is c.answer_next.ensures
