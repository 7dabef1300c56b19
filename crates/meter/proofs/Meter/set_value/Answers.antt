-- `meter::Meter::set_value` meets its contract.
use mathlib.Core.Path.{sym, ◌∙◌}
use Rattle.meter.proofs.MeterLaws.{fits, unsound, refuses, accepts, value_refused, value_set}
use Rattle.meter.proofs.Meter.set_value.Goals as goal

pub returns-then-not-is_sound : goal.returns-then-not-is_sound
returns-then-not-is_sound c = rw c.refused.ensures (unsound _ _ (sym c.is_sound.ensures ∙ c.if-not-is_sound.true))

pub assign-requires : goal.assign-requires
assign-requires c = (fits _ (sym c.is_sound.ensures ∙ c.if-not-is_sound.false)).registers

pub returns-in_default : goal.returns-in_default
returns-in_default c =
    rw c.refused-in_default.ensures (refuses _ c.args.self _ (sym c.is_sound.ensures ∙ c.if-not-is_sound.false) (λ p. value_refused p c.args.self _ c.args.value (sym c.in_default.ensures.found)))

pub returns : goal.returns
returns c =
    rw c.done.ensures (accepts _ c.args.self _ (sym c.is_sound.ensures ∙ c.if-not-is_sound.false) (λ p. value_set p c.args.self _ c.args.value _ c.in-Some.ensures))
