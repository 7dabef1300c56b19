-- `meter::Meter::set_period` meets its contract.
use mathlib.Core.Path.{sym, ◌∙◌}
use Rattle.meter.proofs.MeterLaws.{unsound, refuses, accepts, period_refused, period_set}
use Rattle.meter.proofs.Meter.set_period.Goals as goal

pub returns-then-not-is_sound : goal.returns-then-not-is_sound
returns-then-not-is_sound c = rw c.refused.ensures (unsound _ _ (sym c.is_sound.ensures ∙ c.if-not-is_sound.true))

pub returns-then-not-is_permitted : goal.returns-then-not-is_permitted
returns-then-not-is_permitted c =
    rw c.refused-then-not-is_permitted.ensures (refuses _ c.args.self _ (sym c.is_sound.ensures ∙ c.if-not-is_sound.false) (λ p. period_refused p c.args.self c.args.period (sym c.is_permitted.ensures ∙ c.if-not-is_permitted.true)))

pub returns : goal.returns
returns c =
    rw c.done.ensures (accepts _ c.args.self _ (sym c.is_sound.ensures ∙ c.if-not-is_sound.false) (λ p. period_set p c.args.self c.args.period (sym c.is_permitted.ensures ∙ c.if-not-is_permitted.false)))
