-- Rows by date at the plug: the statements of specs/ByDate, proved. The request is read, the body picks its rows, and the
-- answer goes out as that to any request in an envelope.
use mathlib.Core.Path.{◌≡◌, refl, sym, ap, ◌∙◌}
use mathlib.Core.Bool.{Bool, true}
use mathlib.Core.List.{List, [], ◌∷◌, flat_map}
use Prim.Native.Nat.{ℕ, ◌≤◌}
use lib.Dec.{lit<, lit≤}
use lib.ListN.{length}
use borrow.Author.Tests.{le-leb}
use Rattle.std.specs.Prelude.{Option, Some, None}
use Rattle.wire.specs.Numbers.{length_field}
use Rattle.model.specs.declared.Client.TheVariants.{Ciphering}
use Rattle.model.specs.declared.CipherClient.TheVariants.{Han}
use Rattle.model.specs.declared.Clock.{Clock}
use Rattle.model.specs.Limits.{longest_sent, longest_received, greatest_apdu, envelope_length, data_room, max_rows, max_registers, max_columns}
use Rattle.model.specs.Clocks.{february_days, days_in, real_date, real_time, fixed_bytes, valid_clock, days_of_months, days_of_years, day_number, moment, later, in_range}
use Rattle.model.specs.Periods.{periods}
use Rattle.model.specs.Services.{within}
use Rattle.model.specs.Selecting.{Selection, selected, Picking, dated, range_selector, range_descriptor, good_range}
use Rattle.model.specs.State.{Entry, Body, Model, with_body, with_store, with_rows, new_clock, new_meter, no_counters}
use Rattle.model.specs.Soundness.{accepted_registers, accepted_columns, allowed, rows_allow, sound}
use Rattle.model.specs.Objects.{Turn, granted, row_data, rows_data, rows_within, fitting, get_answer}
use Rattle.model.specs.Calls.{Lent, settled}
use Rattle.model.specs.Archive.{rows_of}
use Rattle.model.specs.ByDate.{done, taken, profile_request, read_turn, rows_result}
use Rattle.model.proofs.LimitFacts.{data_room_lem}
use Rattle.model.proofs.ByDate.{rows_kept, kept_only, range_described, range_turned, both_kept}
use Rattle.cosem.specs.declared.Reading.TheVariants.{Asks}
use Rattle.cosem.specs.declared.ServiceKind.TheVariants.{Get}
use Rattle.cosem.specs.Requests.{read_service, requested}
use Rattle.protocol.specs.Clients.{selective_in, blocks_in}
use Rattle.protocol.specs.Decide.{accepted, advanced}
use Rattle.protocol.specs.Outcomes.{replied, to_h}
use Rattle.protocol.specs.Lazy.{Asking}
use Rattle.protocol.specs.ByDate.{get_range, RowsReadByDate, BothReadByDate, ByDateHappens}
use Rattle.protocol.proofs.Turns.{read_fits}
use Rattle.protocol.proofs.Settling.{settled_idle}
use Rattle.protocol.proofs.Enclosed.{next_counter_lem, some_line, some_meter, some_lent, some_sends}
use Rattle.protocol.proofs.SecondRow.{answer_opens}
use Rattle.protocol.proofs.RowsAsked.{rows_asked, rows_asked_lem, rows_requested}

-- The request.

abbrev range_of : (from to : Clock) → Selection
range_of from to = selected range_selector (range_descriptor from to)

range_asked : (invoke : ℕ) (from to : Clock) → length from.bytes ≡ 12 → length to.bytes ≡ 12 → good_range from to ≡ true
    → read_service Get (get_range invoke from to) ≡ Some (Asks (rows_asked invoke (range_of from to)))
unfolding get_range
range_asked invoke from to f t g = rows_asked_lem invoke true (range_of from to) (dated from to) (range_described from to f t g)

range_requested : (blocks : Bool) (invoke : ℕ) (from to : Clock)
    → requested (Ciphering Han) true blocks (get_range invoke from to) (rows_asked invoke (range_of from to)) ≡ profile_request blocks invoke (range_of from to)
unfolding get_range
range_requested blocks invoke from to = rows_requested true blocks invoke (range_of from to)

-- The answer.

rows_fit : (blocks : Bool) (p : Picking) (invoke : ℕ) (rs : List Entry) (b : Body) → length (rows_data rs) ≤ data_room longest_sent
    → read_turn invoke (rows_result blocks p rs) b ≡ read_turn invoke (granted (rows_data rs)) b
unfolding fitting
rows_fit blocks p invoke rs b h = rw (le-leb (length (rows_data rs)) (data_room longest_sent) h)

pub rows_read_by_date : RowsReadByDate
rows_read_by_date a m from to counter invoke rs k kept fits =
    let text = get_range invoke from to in
    let line = advanced Han (accepted Han counter m.line) in
    let same = kept_only _ (rows_of m) rs (rows_within from to (rows_of m)) kept (rows_kept from to (rows_of m)) in
    let asked = range_asked invoke from to k.first k.last k.good in
    let blocks = blocks_in (Ciphering Han) m.line in
    let request = range_requested blocks invoke from to in
    let read =
    range_turned blocks invoke from to m.body k.first k.last k.good
    ∙ ap (λ (l : List Entry). read_turn invoke (rows_result blocks (dated from to) l) m.body) (sym same)
    ∙ rows_fit blocks (dated from to) invoke rs m.body fits in
    let answer =
    rw (k.agreed, request) at (next_counter_lem Han a m Get counter text (rows_asked invoke (range_of from to)) k.is_sound k.asks asked)
    ∙ ap (λ (x : Turn). record { refusal = x.refusal; sent = to_h a m.line Han 0xD0 x.bytes; next = settled (record { line = line; body = x.body }) }) read
    ∙ ap (replied 0 (to_h a m.line Han 0xD0 (get_answer invoke (granted (rows_data rs))))) (settled_idle line m.body) in
    record {
      answer = answer;
      found = rw answer (answer_opens Han a m.line Get counter text k.asks (get_answer invoke (granted (rows_data rs))) (read_fits invoke (granted (rows_data rs)) fits));
    }

pub both_read_by_date : BothReadByDate
both_read_by_date a m from to counter invoke r s rs k kept fits t e inside =
    record { both = both_kept from to r s (rows_of m) rs kept t inside (rw e at inside); read = rows_read_by_date a m from to counter invoke rs k kept fits }

-- A new meter with an associated H, which keeps two rows of its first clock.

abbrev dated_row : ℕ → Entry
dated_row n = record { number = n; clock = new_clock; cells = [] }

abbrev dated_meter : Model
dated_meter = with_body (with_store (with_rows (dated_row 2 ∷ dated_row 1 ∷ []) (some_meter no_counters).body.store) (some_meter no_counters).body) (some_meter no_counters)

-- an hour before it, and an hour after it
abbrev pub hour_before : Clock
hour_before = record { bytes = 0x07 ∷ 0xE0 ∷ 12 ∷ 31 ∷ 0xFF ∷ 23 ∷ 0 ∷ 0 ∷ 0xFF ∷ 0x80 ∷ 0x00 ∷ 0x00 ∷ [] }

abbrev pub hour_after : Clock
hour_after = record { bytes = 0x07 ∷ 0xE1 ∷ 1 ∷ 1 ∷ 0xFF ∷ 1 ∷ 0 ∷ 0 ∷ 0xFF ∷ 0x80 ∷ 0x00 ∷ 0x00 ∷ [] }

abbrev dated_lent : Lent
dated_lent = some_lent 1 (get_range 0 hour_before hour_after)

dated_sound : sound dated_meter ≡ true
unfolding sound new_meter accepted_registers accepted_columns valid_clock real_date real_time fixed_bytes days_in february_days periods max_rows max_registers max_columns within allowed rows_allow
dated_sound = refl

pub dated_good : good_range hour_before hour_after ≡ true
unfolding good_range later moment day_number days_of_years days_of_months valid_clock real_date real_time fixed_bytes days_in february_days
dated_good = refl

pub dated_inside : in_range hour_before hour_after new_clock ≡ true
unfolding in_range later moment day_number days_of_years days_of_months days_in february_days
dated_inside = refl

dated_asks : Asking Han dated_lent (some_line no_counters) Get 1 (get_range 0 hour_before hour_after)
unfolding get_range range_descriptor envelope_length length_field greatest_apdu longest_received
dated_asks =
    record {
      sends = some_sends no_counters 1 (get_range 0 hour_before hour_after) (lit< tt) (lit≤ tt);
      window = record { steps = 1; least = lit≤ tt; most = lit≤ tt; counts = refl };
    }

dated_fits : length (rows_data (dated_row 2 ∷ dated_row 1 ∷ [])) ≤ data_room longest_sent
unfolding rows_data row_data flat_map length_field
dated_fits = rw data_room_lem (lit≤ tt)

dated_agreed : selective_in (Ciphering Han) (some_line no_counters) ≡ true
unfolding within
dated_agreed = refl

pub by_date_happens : ByDateHappens
by_date_happens =
    record {
      lent = dated_lent;
      meter = dated_meter;
      from = hour_before;
      to = hour_after;
      counter = 1;
      invoke = 0;
      newer = dated_row 2;
      older = dated_row 1;
      rows = dated_row 2 ∷ dated_row 1 ∷ [];
      asks = record { is_sound = dated_sound; first = refl; last = refl; good = dated_good; agreed = dated_agreed; asks = dated_asks };
      kept = taken dated_inside (taken dated_inside done);
      fits = dated_fits;
      both = record { before = []; between = []; after = []; are = refl };
      same = refl;
      inside = dated_inside;
    }
