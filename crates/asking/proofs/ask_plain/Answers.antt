-- `asking::ask_plain` meets its contract.
use mathlib.Core.Path.{refl, sym, ◌∙◌}
use Rattle.line.specs.View.{line_of}
use Rattle.protocol.specs.Rulings.{malformed_apdu}
use Rattle.asking.proofs.AllowedLaws.{plain_by}
use Rattle.asking.proofs.ask_plain.Goals.{in_default-via-in-Some+else-may_ask, in_default-via-in_default}
use Rattle.asking.proofs.ask_plain.Goals as goal

pub returns-in-Some : goal.returns-in-Some
returns-in-Some c a =
    rw (sym c.read_service.ensures ∙ c.in-Some.is, plain_by (line_of c.args.meter.line) a c.args.head c.args.apdu.now c.args.client c.in-Some.reading, sym c.may_ask.ensures ∙ c.if-may_ask.true)
    (c.answer_plain.ensures a.ak)

pub returns-in_default : goal.returns-in_default
returns-in_default c a =
    let refused = c.except.ensures c.args.meter.line malformed_apdu refl (λ d. refl) c.args.meter.body in
    elim c.in_default.branch [
      | in_default-via-in-Some+else-may_ask w ↦
          rw (c.alone.ensures, sym c.read_service.ensures ∙ w.in-Some.is, plain_by (line_of c.args.meter.line) a c.args.head c.args.apdu.now c.args.client w.in-Some.reading, sym w.may_ask.ensures ∙ w.if-may_ask.false) refused
      | in_default-via-in_default w ↦ rw (c.alone.ensures, sym c.read_service.ensures ∙ w.in_default.is) refused
    ]
