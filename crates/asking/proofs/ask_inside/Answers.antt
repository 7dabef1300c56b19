-- `asking::ask_inside` meets its contract.
use mathlib.Core.Path.{sym, ◌∙◌}
use Rattle.line.specs.View.{line_of}
use Rattle.asking.proofs.AllowedLaws.{inside_by}
use Rattle.asking.proofs.ask_inside.Goals.{in_default-via-in-Some+else-may_ask, in_default-via-in_default}
use Rattle.asking.proofs.ask_inside.Goals as goal

pub returns-in-Some : goal.returns-in-Some
returns-in-Some c a e =
    let o = c.args.opened in
    rw (sym c.read_service.ensures ∙ c.in-Some.is, inside_by (line_of c.args.meter.line) a o.head c.args.text.now o.client c.args.kind o.counter c.in-Some.reading, sym c.may_ask.ensures ∙ c.if-may_ask.true)
    (c.answer_enclosed.ensures a e)

pub returns-in_default : goal.returns-in_default
returns-in_default c a e =
    let o = c.args.opened in
    let refused = c.misread.ensures c.args.meter.body in
    elim c.in_default.branch [
      | in_default-via-in-Some+else-may_ask w ↦
          rw (c.alone.ensures, sym c.read_service.ensures ∙ w.in-Some.is, inside_by (line_of c.args.meter.line) a o.head c.args.text.now o.client c.args.kind o.counter w.in-Some.reading, sym w.may_ask.ensures ∙ w.if-may_ask.false) refused
      | in_default-via-in_default w ↦ rw (c.alone.ensures, sym c.read_service.ensures ∙ w.in_default.is) refused
    ]
