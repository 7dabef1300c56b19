-- `diagnosis::envelopes::find_in_answer` meets its contract.
use mathlib.Core.Path.{refl, sym, ap, ◌∙◌}
use Rattle.std.specs.Prelude.{Some, Err}
use Rattle.line.specs.View.{line_of}
use Rattle.ending.proofs.Envelopes.{proves_under}
use Rattle.diagnosis.proofs.envelopes.find_in_answer.Goals as goal

pub returns-then-not-proves_itself : goal.returns-then-not-proves_itself
returns-then-not-proves_itself c a e =
    let s = c.args in
    let q = c.in-Some-Asks.request in
    rw (sym c.read_action.ensures ∙ c.in-Some-Asks.is ∙ ap Some c.in-Some-Asks.field-0-is, sym c.is_challenge.ensures ∙ c.if-not-is_challenge.false, proves_under s.client (line_of s.line) a s.counter s.text.now q e c.proves_itself.ensures ∙ c.if-not-proves_itself.true) (ap Err c.into-then-not-proves_itself.ensures)

pub returns : goal.returns
returns c a e =
    let s = c.args in
    let q = c.in-Some-Asks.request in
    rw (sym c.read_action.ensures ∙ c.in-Some-Asks.is ∙ ap Some c.in-Some-Asks.field-0-is, sym c.is_challenge.ensures ∙ c.if-not-is_challenge.false, proves_under s.client (line_of s.line) a s.counter s.text.now q e c.proves_itself.ensures ∙ c.if-not-proves_itself.false) refl
