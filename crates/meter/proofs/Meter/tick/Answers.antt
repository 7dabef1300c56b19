-- `meter::Meter::tick` meets its contract.
use mathlib.Core.Path.{sym, ◌∙◌}
use Rattle.meter.proofs.MeterLaws.{fits, unsound, refuses, accepts, tick_refused, tick_taken}
use Rattle.meter.proofs.Meter.tick.Goals as goal

pub returns-then-not-is_sound : goal.returns-then-not-is_sound
returns-then-not-is_sound c = rw c.refused.ensures (unsound _ _ (sym c.is_sound.ensures ∙ c.if-not-is_sound.true))

pub returns-then-not-is_valid : goal.returns-then-not-is_valid
returns-then-not-is_valid c =
    rw c.refused-then-not-is_valid.ensures (refuses _ c.args.self _ (sym c.is_sound.ensures ∙ c.if-not-is_sound.false) (λ p. tick_refused p c.args.self c.args.clock (sym c.is_valid.ensures ∙ c.if-not-is_valid.true)))

pub ticked-self-requires : goal.ticked-self-requires
ticked-self-requires c = fits _ (sym c.is_sound.ensures ∙ c.if-not-is_sound.false)

pub returns : goal.returns
returns c =
    rw c.done.ensures (accepts _ c.args.self _ (sym c.is_sound.ensures ∙ c.if-not-is_sound.false) (λ p. tick_taken p c.args.self c.args.clock _ (sym c.is_valid.ensures ∙ c.if-not-is_valid.false) c.ticked-self.ensures))
