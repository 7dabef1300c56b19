-- `meter::Meter::set_p5` meets its contract.
use mathlib.Core.Path.{sym, ◌∙◌}
use Rattle.meter.proofs.MeterLaws.{unsound, accepts, p5_set}
use Rattle.meter.proofs.Meter.set_p5.Goals as goal

pub returns-then-not-is_sound : goal.returns-then-not-is_sound
returns-then-not-is_sound c = rw c.refused.ensures (unsound _ _ (sym c.is_sound.ensures ∙ c.if-not-is_sound.true))

pub returns : goal.returns
returns c =
    rw c.done.ensures (accepts _ c.args.self _ (sym c.is_sound.ensures ∙ c.if-not-is_sound.false) (λ p. p5_set p c.args.self c.args.held))
