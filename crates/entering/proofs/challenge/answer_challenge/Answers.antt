-- `entering::challenge::answer_challenge` meets its contract.
use Rattle.std.proofs.Common.{sym, ◌∙◌}
use Rattle.entering.proofs.challenge.answer_challenge.Goals as goal

pub returns-in-Some-Asks : goal.returns-in-Some-Asks
returns-in-Some-Asks c a e b =
    rw (rw c.in-Some-Asks.field-0-is at (sym c.read_action.ensures ∙ c.in-Some-Asks.is)) (c.judge.ensures a e b)

-- a numbered request
pub returns-in-Some-GoesOn : goal.returns-in-Some-GoesOn
returns-in-Some-GoesOn c a e b =
    rw (rw c.in-Some-GoesOn.field-0-is at (sym c.read_action.ensures ∙ c.in-Some-GoesOn.is)) (c.misread.ensures b)

-- no request
pub returns-in-None : goal.returns-in-None
returns-in-None c a e b = rw (sym c.read_action.ensures ∙ c.in-None.is) (c.misread-in-None.ensures b)
