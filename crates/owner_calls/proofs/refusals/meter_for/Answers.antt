-- `owner_calls::refusals::meter_for` meets its contract: the image is whole, and the argument is taken or has its fault.
use Rattle.std.proofs.Common.{rules, ◌≡◌, refl}
use Rattle.image.specs.Image.{status_of, whole}
use Rattle.owner_calls.specs.declared.refusals.Refusal.TheVariants.{NotSound, Argument}
use Rattle.owner_calls.proofs.CallLaws.{meter_taken, argument_refused}
use Rattle.owner_calls.proofs.refusals.meter_for.Goals as goal

pub returns-then-is_taken : goal.returns-then-is_taken
returns-then-is_taken c =
    let w : status_of c.args.state.now ≡ whole = search rules in
    meter_taken c.args.state.now w c.meter_in-meter.ensures (rw c.if-is_taken.true refl)

pub returns-then-not-is_sound : goal.returns-then-not-is_sound
returns-then-not-is_sound c =
    let a = c.args in
    let w : status_of a.state.now ≡ whole = search rules in
    argument_refused a.state.now w c.meter_in-meter.ensures a.fault NotSound c.if-is_taken.false c.is_sound.ensures (rw c.if-not-is_sound.true refl)

pub returns : goal.returns
returns c =
    let a = c.args in
    let w : status_of a.state.now ≡ whole = search rules in
    argument_refused a.state.now w c.meter_in-meter.ensures a.fault (Argument a.fault) c.if-is_taken.false c.is_sound.ensures (rw c.if-not-is_sound.false refl)
