-- `asking::ask_enclosed` meets its contract.
use mathlib.Core.Path.{refl}
use Rattle.line.specs.View.{line_of}
use Rattle.cosem.specs.Tags.{dedicated_tag}
use Rattle.protocol.specs.Rulings.{envelope_unopened, nothing}
use Rattle.protocol.specs.Decide.{request_enclosed}
use Rattle.ending.proofs.Endings.{follows, nothing_sent, says_kept}
use Rattle.ending.proofs.Envelopes.{admits_unopened, admits_outside, admits_inside, admitted_size}
use Rattle.asking.proofs.ask_enclosed.Goals as goal

pub slice_bounds-ask_inside-end : goal.slice_bounds-ask_inside-end
slice_bounds-ask_inside-end c =
    admitted_size c.admit_envelope.ensures c.in-Ok.is

pub returns-in-Err-Unopened : goal.returns-in-Err-Unopened
unfolding request_enclosed
returns-in-Err-Unopened c =
    rw (c.alone.ensures, c.kept.ensures)
    (follows
    (admits_unopened (dedicated_tag c.args.kind) c.args.apdu.now c.dedicated_keys-keys.ensures c.title_of-title.ensures c.args.client (line_of c.args.meter.line) c.counters_of-pair.ensures _ (rw c.dedicated_tag-tag.ensures at c.admit_envelope.ensures) (rw c.in-Err-Unopened.field-0-is at c.in-Err-Unopened.is))
    (says_kept envelope_unopened nothing c.args.meter refl (nothing_sent _)))

pub returns-in-Err-OutsideWindow : goal.returns-in-Err-OutsideWindow
unfolding request_enclosed
returns-in-Err-OutsideWindow c =
    rw c.alone-in-Err-OutsideWindow.ensures
    (follows
    (admits_outside (dedicated_tag c.args.kind) c.args.apdu.now c.dedicated_keys-keys.ensures c.title_of-title.ensures c.args.client (line_of c.args.meter.line) c.counters_of-pair.ensures _ (rw c.dedicated_tag-tag.ensures at c.admit_envelope.ensures) (rw c.in-Err-OutsideWindow.field-0-is at c.in-Err-OutsideWindow.is))
    (c.drop_association.ensures _ c.args.meter.body))

pub returns-in-Ok : goal.returns-in-Ok
unfolding request_enclosed
returns-in-Ok c =
    follows
    (admits_inside (dedicated_tag c.args.kind) c.args.apdu.now c.dedicated_keys-keys.ensures c.title_of-title.ensures c.args.client (line_of c.args.meter.line) c.counters_of-pair.ensures _ (rw c.dedicated_tag-tag.ensures at c.admit_envelope.ensures) c.in-Ok.is)
    (c.ask_inside.ensures c.args.secrets c.dedicated_keys-keys.ensures)
