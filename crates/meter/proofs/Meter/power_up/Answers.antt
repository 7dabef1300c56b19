-- `meter::Meter::power_up` meets its contract.
use mathlib.Core.Path.{sym, ◌∙◌}
use native.Mathlib.Omega.{arith}
use Rattle.meter.proofs.MeterLaws.{unsound, accepts, powered}
use Rattle.body.proofs.BodyLaws.{none_held}
use Rattle.meter.proofs.Meter.power_up.Goals as goal

pub returns-then-not-is_sound : goal.returns-then-not-is_sound
returns-then-not-is_sound c = rw c.refused.ensures (record { owned = unsound _ _ (sym c.is_sound.ensures ∙ c.if-not-is_sound.true); wiped = λ z. absurd (omega arith) })

pub returns : goal.returns
returns c =
    rw c.done.ensures (record { owned = accepts _ c.args.self _ (sym c.is_sound.ensures ∙ c.if-not-is_sound.false) (λ p. powered p c.args.self _ _ _ c.powered_up-self.ensures.view (none_held c.no_rows.ensures) c.no_transfer.ensures); wiped = λ _. c.powered_up-self.ensures.wiped })
