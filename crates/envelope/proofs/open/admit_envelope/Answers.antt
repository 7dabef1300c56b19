-- `envelope::open::admit_envelope` meets its contract: by what the opening came to, and then by the window.
use mathlib.Core.Path.{sym, ◌∙◌}
use Rattle.envelope.proofs.AdmitLaws.{unopened, inside, outside}
use Rattle.envelope.proofs.open.admit_envelope.Goals as goal

pub returns-in_default : goal.returns-in_default
returns-in_default c = unopened c.open_envelope.ensures c.in_default.is

pub returns-then-is_in_window : goal.returns-then-is_in_window
returns-then-is_in_window c =
    inside c.open_envelope.ensures c.in-Some.is (sym c.is_in_window.ensures ∙ c.if-is_in_window.true)

pub returns : goal.returns
returns c =
    outside c.open_envelope.ensures c.in-Some.is (sym c.is_in_window.ensures ∙ c.if-is_in_window.false)
