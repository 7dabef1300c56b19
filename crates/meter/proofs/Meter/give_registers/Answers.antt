-- `meter::Meter::give_registers` meets its contract.
use mathlib.Core.Path.{sym, ◌∙◌}
use Rattle.meter.proofs.MeterLaws.{unsound, refuses, accepts, registers_refused, registers_given}
use Rattle.store.specs.Lists.{registers_of}
use Rattle.picks.proofs.ClearLaws.{broken_as}
use Rattle.body.proofs.BodyLaws.{none_held}
use Rattle.meter.proofs.Meter.give_registers.Goals as goal

pub returns-then-not-is_sound : goal.returns-then-not-is_sound
returns-then-not-is_sound c = rw c.refused.ensures (unsound _ _ (sym c.is_sound.ensures ∙ c.if-not-is_sound.true))

pub returns-then-not-registers_accepted : goal.returns-then-not-registers_accepted
unfolding registers_of
returns-then-not-registers_accepted c =
    rw c.refused-then-not-registers_accepted.ensures (refuses _ c.args.self _ (sym c.is_sound.ensures ∙ c.if-not-is_sound.false) (λ p. registers_refused p c.args.self (record { count = c.args.count; items = c.args.registers }) (sym c.registers_accepted.ensures ∙ c.if-not-registers_accepted.true)))

pub returns : goal.returns
unfolding registers_of
returns c =
    rw c.done.ensures (accepts _ c.args.self _ (sym c.is_sound.ensures ∙ c.if-not-is_sound.false) (λ p. registers_given p c.args.self (record { count = c.args.count; items = c.args.registers }) _ _ _ (sym c.registers_accepted.ensures ∙ c.if-not-registers_accepted.false) c.no_columns.ensures (none_held c.no_rows.ensures) (broken_as _ c.broken.ensures)))
