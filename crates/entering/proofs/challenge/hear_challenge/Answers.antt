-- `entering::challenge::hear_challenge` meets its contract.
use mathlib.Core.Path.{refl}
use Rattle.line.specs.View.{line_of}
use Rattle.protocol.specs.Rulings.{envelope_unopened, nothing}
use Rattle.protocol.specs.Decide.{challenge_enclosed}
use Rattle.ending.proofs.Endings.{follows, nothing_sent, says_kept}
use Rattle.ending.proofs.Envelopes.{admits_unopened, admits_outside, admits_inside, admitted_size}
use Rattle.ending.specs.Inner.{meter_with}
use Rattle.entering.proofs.challenge.hear_challenge.Goals as goal

pub slice_bounds-answer_challenge-end : goal.slice_bounds-answer_challenge-end
slice_bounds-answer_challenge-end c =
    admitted_size c.admit_envelope.ensures c.in-Ok.is

pub returns-in-Err-Unopened : goal.returns-in-Err-Unopened
unfolding challenge_enclosed
returns-in-Err-Unopened c b =
    rw c.kept.ensures
    (follows
    (admits_unopened 0xCB c.args.apdu.now c.lent_keys-keys.ensures c.title_of-title.ensures c.args.client (line_of c.args.line) c.counters_of-pair.ensures _ c.admit_envelope.ensures (rw c.in-Err-Unopened.field-0-is at c.in-Err-Unopened.is))
    (says_kept envelope_unopened nothing (meter_with c.args.line b) refl (nothing_sent _)))

pub returns-in-Err-OutsideWindow : goal.returns-in-Err-OutsideWindow
unfolding challenge_enclosed
returns-in-Err-OutsideWindow c b =
    follows
    (admits_outside 0xCB c.args.apdu.now c.lent_keys-keys.ensures c.title_of-title.ensures c.args.client (line_of c.args.line) c.counters_of-pair.ensures _ c.admit_envelope.ensures (rw c.in-Err-OutsideWindow.field-0-is at c.in-Err-OutsideWindow.is))
    (c.drop_association.ensures _ b)

pub returns-in-Ok : goal.returns-in-Ok
unfolding challenge_enclosed
returns-in-Ok c b =
    follows
    (admits_inside 0xCB c.args.apdu.now c.lent_keys-keys.ensures c.title_of-title.ensures c.args.client (line_of c.args.line) c.counters_of-pair.ensures _ c.admit_envelope.ensures c.in-Ok.is)
    (c.answer_challenge.ensures c.args.secrets c.lent_keys-keys.ensures b)
