-- `diagnosis::envelopes::admit` meets its contract.
use mathlib.Core.Path.{◌≡◌, sym, ap, ◌∙◌}
use Rattle.std.specs.Prelude.{Err}
use Rattle.std.proofs.lemmas.Result.{err_from_is_err_and}
use Rattle.line.specs.View.{line_of}
use Rattle.call_tests.specs.declared.LineTest.TheVariants.{EnvelopeShape}
use Rattle.diagnosis.proofs.EnvelopeLaws.{misshapen, unopened, outside, opens_inside}
use Rattle.diagnosis.proofs.envelopes.admit.Goals as goal

pub returns-in_err-ok_or : goal.returns-in_err-ok_or
returns-in_err-ok_or c =
    let s = c.args in
    let p = err_from_is_err_and c.from_residual.result c.from_residual.ensures.1 in
    let missing = c.in_err-ok_or.ensures.ok_part in
    let test : c.in_err-ok_or.field-0.0 ≡ EnvelopeShape = let z = rw missing at c.in_err-ok_or.ensures.value in cc in
    rw (p.1, p.2, test) (misshapen (line_of s.line) s.client _ s.tag s.apdu.now (sym c.read_shape.ensures ∙ missing))

pub returns-in-Err-Unopened : goal.returns-in-Err-Unopened
returns-in-Err-Unopened c =
    let s = c.args in
    unopened (line_of s.line) s.client _ s.tag s.apdu.now (sym c.read_shape.ensures ∙ c.in_ok-ok_or.ensures.ok_part) c.title_of-title.ensures c.counters_of-pair.ensures c.admit_envelope.ensures (c.in-Err-Unopened.is ∙ ap Err c.in-Err-Unopened.field-0-is)

pub returns-in-Err-OutsideWindow : goal.returns-in-Err-OutsideWindow
returns-in-Err-OutsideWindow c =
    let s = c.args in
    outside (line_of s.line) s.client _ s.tag s.apdu.now (sym c.read_shape.ensures ∙ c.in_ok-ok_or.ensures.ok_part) c.title_of-title.ensures c.counters_of-pair.ensures c.admit_envelope.ensures (c.in-Err-OutsideWindow.is ∙ ap Err c.in-Err-OutsideWindow.field-0-is)

pub returns-in-Ok : goal.returns-in-Ok
returns-in-Ok c =
    let s = c.args in
    opens_inside (line_of s.line) s.client _ s.tag s.apdu.now (sym c.read_shape.ensures ∙ c.in_ok-ok_or.ensures.ok_part) c.title_of-title.ensures c.counters_of-pair.ensures c.admit_envelope.ensures c.in-Ok.is
