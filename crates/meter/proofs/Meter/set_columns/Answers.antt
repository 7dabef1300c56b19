-- `meter::Meter::set_columns` meets its contract.
use mathlib.Core.Path.{sym, ◌∙◌}
use Rattle.meter.proofs.MeterLaws.{fits, unsound, refuses, accepts, columns_refused, columns_set}
use Rattle.store.specs.Lists.{columns_of}
use Rattle.picks.proofs.ClearLaws.{broken_as}
use Rattle.body.proofs.BodyLaws.{none_held}
use Rattle.meter.proofs.Meter.set_columns.Goals as goal

pub returns-then-not-is_sound : goal.returns-then-not-is_sound
returns-then-not-is_sound c = rw c.refused.ensures (unsound _ _ (sym c.is_sound.ensures ∙ c.if-not-is_sound.true))

pub columns_accepted-requires : goal.columns_accepted-requires
columns_accepted-requires c = (fits _ (sym c.is_sound.ensures ∙ c.if-not-is_sound.false)).registers

pub returns-then-not-columns_accepted : goal.returns-then-not-columns_accepted
unfolding columns_of
returns-then-not-columns_accepted c =
    rw c.refused-then-not-columns_accepted.ensures (refuses _ c.args.self _ (sym c.is_sound.ensures ∙ c.if-not-is_sound.false) (λ p. columns_refused p c.args.self (record { count = c.args.count; items = c.args.columns }) (sym c.columns_accepted.ensures ∙ c.if-not-columns_accepted.true)))

pub returns : goal.returns
unfolding columns_of
returns c =
    rw c.done.ensures (accepts _ c.args.self _ (sym c.is_sound.ensures ∙ c.if-not-is_sound.false) (λ p. columns_set p c.args.self (record { count = c.args.count; items = c.args.columns }) _ _ (sym c.columns_accepted.ensures ∙ c.if-not-columns_accepted.false) (none_held c.no_rows.ensures) (broken_as _ c.broken.ensures)))
