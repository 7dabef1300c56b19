-- The table of unsound meters, computed: each fails what stands beside it and nothing else, and each gets 3 of every owner's
-- call, as every unsound meter does.
use mathlib.Core.Path.{◌≡◌, refl, sym, ◌∙◌, ap}
use mathlib.Core.Bool.{false}
use mathlib.Core.List.{List, [], ◌∷◌, map, flat_map, Memᴰ, head-eq_of_cons-eq, tail-eq_of_cons-eq}
use native.Mathlib.Omega.{arith}
use Rattle.wire.specs.Numbers.{length_field}
use Rattle.wire.specs.Reading.{same_bytes}
use Rattle.model.specs.Limits.{longest_sent, apdu_room, envelope_length, greatest_text, text_room, data_room, block_length, greatest_block, block_room, max_rows, max_registers, max_columns}
use Rattle.model.specs.Clocks.{valid_clock, real_date, real_time, fixed_bytes, days_in, february_days, days_of_months, days_of_years, day_number, moment, later, in_range}
use Rattle.model.specs.Periods.{periods}
use Rattle.model.specs.Services.{within}
use Rattle.model.specs.Selecting.{good_range}
use Rattle.model.specs.Objects.{row_data, rows_data, entries_wrong, entries}
use Rattle.model.specs.Soundness.{accepted_registers, accepted_columns, allowed, rows_allow, sound}
use Rattle.model.specs.Calls.{OwnerCall, step}
use Rattle.store.specs.Lists.{registers_of, columns_of, entries_of}
use Rattle.picks.specs.Transfers.{picking_of, transfer_of}
use Rattle.line.specs.View.{line_of}
use Rattle.body.specs.View.{body_of}
use Rattle.meter.specs.declared.Meter.{Meter}
use Rattle.meter.specs.declared.Changed.{Changed}
use Rattle.meter.specs.View.{view}
use Rattle.meter.specs.Promise.{Owned}
use Rattle.meter.specs.Unsound.{Verdict, sound_meter, long_meters, unsound_meters, sixteen_rows, VerdictsRight, UnsoundAnswers3, TableAnswers3}
use Rattle.meter.proofs.OwnedLaws.{owned_refusal}

pub verdicts_right : VerdictsRight
unfolding sound_meter long_meters unsound_meters sixteen_rows view line_of body_of registers_of columns_of entries_of transfer_of picking_of sound allowed rows_allow accepted_registers accepted_columns valid_clock real_date real_time fixed_bytes days_in february_days periods within same_bytes good_range later in_range moment day_number days_of_years days_of_months entries entries_wrong rows_data row_data flat_map length_field longest_sent data_room block_room greatest_block block_length text_room greatest_text envelope_length apdu_room max_rows max_registers max_columns
verdicts_right = record { sound = refl; long = refl; unsound = refl; sixteen = refl }

-- Refusal 3.

refused_3 : (c : OwnerCall) (m : Meter) (r : Changed) → sound (view m) ≡ false → Owned c m r → r.refusal ≡ 3
unfolding step
refused_3 c m r s o = rw s at (owned_refusal c m r o)

pub unsound_answers_3 : UnsoundAnswers3
unsound_answers_3 m s c r o =
    let three = refused_3 c m r s o in
    let same = o.kept (λ z. omega arith) in
    λ i. record { refusal = three i; meter = same i }

-- what holds of the elements of a list whose images agree
each : {A B : Type 0} (f g : A → B) (xs : List A) → map f xs ≡ map g xs → (x : A) → Memᴰ x xs → f x ≡ g x
each f g [] e x m = elim m [ ]
each f g (y ∷ ys) e x (Memᴰ.head h) = ap f h ∙ head-eq_of_cons-eq e ∙ ap g (sym h)
each f g (y ∷ ys) e x (Memᴰ.tail m) = each f g ys (tail-eq_of_cons-eq e) x m

pub table_answers_3 : TableAnswers3
table_answers_3 e m = unsound_answers_3 e.meter (ap (λ (w : Verdict). w.is_sound) (each _ _ unsound_meters verdicts_right.unsound e m))
