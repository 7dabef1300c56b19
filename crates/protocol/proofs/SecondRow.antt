-- A request in an envelope is answered, and so both rows of a second are read: `SecondRowRead` of specs/Lazy, proved, and
-- `SecondRowHappens`.
use mathlib.Core.Path.{◌≡◌, refl, sym, ap, ◌∙◌}
use mathlib.Core.Bool.{Bool, true}
use mathlib.Core.List.{List, ◌++◌, flat_map}
use Prim.Native.Nat.{ℕ, ◌+◌, ◌^◌, ◌≤◌, ◌<◌}
use native.Mathlib.Omega.{arith}
use lib.Dec.{lit<, lit≤}
use lib.ListN.{length, drop, length-append}
use borrow.Author.Tests.{le-leb}
use Rattle.wire.specs.Numbers.{length_field}
use Rattle.wire.specs.Reading.{same_bytes, filled}
use Rattle.model.specs.declared.Client.{Client}
use Rattle.model.specs.declared.Client.TheVariants.{Ciphering}
use Rattle.model.specs.declared.CipherClient.{CipherClient}
use Rattle.model.specs.declared.CipherClient.TheVariants.{Han}
use Rattle.model.specs.declared.Clock.{Clock}
use Rattle.model.specs.Limits.{longest_sent, longest_received, apdu_room, text_room, greatest_apdu, envelope_length, data_room, max_rows}
use Rattle.model.specs.Clocks.{february_days, days_in, real_date, real_time, fixed_bytes, valid_clock}
use Rattle.model.specs.Periods.{capture_due}
use Rattle.model.specs.State.{Line, Entry, idle, Body, with_transfer, Model, no_counters, new_clock, new_meter}
use Rattle.model.specs.Soundness.{sound}
use Rattle.model.specs.Selecting.{described}
use Rattle.model.specs.Objects.{ask, Turn, granted, row_data, rows_data, attribute_data, fitting, attribute_read, get_answer, turned}
use Rattle.model.specs.Calls.{Lent, owner, tick, Outcome, settled, captured, step}
use Rattle.model.specs.Archive.{rows_of}
use Rattle.model.proofs.LimitFacts.{apdu_room_lem, data_room_lem}
use Rattle.hdlc.specs.declared.Head.{Head}
use Rattle.hdlc.specs.Layout.{ui, head_of}
use Rattle.hdlc.specs.Addresses.{meter_address, address_of}
use Rattle.hdlc.specs.Tests.{meter_side, request_llc, reply_llc}
use Rattle.hdlc.specs.Replies.{apdu_frame}
use Rattle.hdlc.proofs.LayoutLaws.{information_rest, length_full}
use Rattle.hdlc.proofs.RoundTrip.{read_back, reply_back}
use Rattle.cosem.specs.declared.ServiceKind.{ServiceKind}
use Rattle.cosem.specs.declared.ServiceKind.TheVariants.{Get}
use Rattle.cosem.specs.Tags.{dedicated_tag, answer_tag}
use Rattle.cosem.specs.Requests.{name_in, requested}
use Rattle.counters.specs.Advance.{next_counter}
use Rattle.envelope.specs.Layout.{sealed_envelope}
use Rattle.envelope.specs.Opening.{opens, opened}
use Rattle.envelope.proofs.ShapeLaws.{longest_apdu_lem}
use Rattle.envelope.proofs.CloseLaws.{length_envelope, envelope_size, envelope_fits}
use Rattle.envelope.proofs.RoundTrip.{opens_closed}
use Rattle.meter.proofs.SameSecond.{after_due, due_step, two_more, two_rows}
use Rattle.protocol.specs.Clients.{ciphering, counters, selective_in, blocks_in, dedicated_keys}
use Rattle.protocol.specs.Decide.{accepted, advanced, p2}
use Rattle.protocol.specs.Outcomes.{outcome, head_in, apdu_of, replied, to_h}
use Rattle.protocol.specs.Lazy.{request_frame, Asking, twice, both_rows, get_profile, SecondRowRead, SecondRowHappens}
use Rattle.protocol.proofs.Claim.{p2_stays_sound}
use Rattle.protocol.proofs.Turns.{read_fits}
use Rattle.protocol.proofs.Settling.{settled_idle}
use Rattle.protocol.proofs.Enclosed.{next_counter_lem, profile_asked, profile_asked_lem, some_line, some_meter, some_lent, some_sound, some_sends}

-- Both rows.

-- the rows, where they fit
profile_read : (selective blocks : Bool) (invoke : ℕ) (b : Body) (rs : List Entry) → b.store.rows ≡ rs → length (rows_data rs) ≤ data_room longest_sent
    → turned (ask (requested (Ciphering Han) selective blocks (get_profile invoke) (profile_asked invoke))) b
    ≡ record { refusal = 0; bytes = get_answer invoke (granted (rows_data rs)); body = with_transfer idle b }
unfolding turned requested name_in filled attribute_read attribute_data described fitting same_bytes
profile_read selective blocks invoke b rs e h = rw (e, le-leb (length (rows_data rs)) (data_room longest_sent) h)

module _ (t : Clock) (m : Model) (s : sound m ≡ true) (v : valid_clock t ≡ true) (d : capture_due m.body.period t ≡ true) where
  after_sound : sound (after_due t m) ≡ true
  after_sound = ap (λ (o : Outcome). sound o.next) (sym (due_step p2 t m s v d)) ∙ p2_stays_sound (owner (tick t)) m s

  still_due : capture_due (after_due t m).body.period t ≡ true
  unfolding after_due captured
  still_due = d

  twice_due : twice t m ≡ after_due t (after_due t m)
  twice_due =
      ap (λ (o : Outcome). (step p2 (owner (tick t)) o.next).next) (due_step p2 t m s v d)
      ∙ ap (λ (o : Outcome). o.next) (due_step p2 t (after_due t m) after_sound v still_due)

both_rows_lem : (t : Clock) (m : Model) → rows_of (after_due t (after_due t m)) ≡ both_rows t m
unfolding after_due captured
both_rows_lem t m = two_more max_rows _ _ (rows_of m) two_rows

-- What H finds.

-- the answer to a request, at its client: the APDU that the frame carries
reply_apdu : (a : Lent) (c : Client) (s bs : List ℕ) → a.received ≡ request_frame c s → 3 + length s ≤ longest_received → 0 < length bs → 3 + length bs ≤ longest_sent
    → apdu_of (apdu_frame (head_in a) bs) ≡ bs
unfolding longest_received
reply_apdu a c s bs e short some fits =
    let request = read_back meter_side meter_address (address_of c) ui (request_llc ++ s) refl (omega arith) (omega (arith, length-append request_llc s)) in
    let h = ap head_of e ∙ request.head in
    let f = apdu_frame (head_in a) bs in
    let n = length-append reply_llc bs in
    let i = (reply_back c (head_in a) (ap (λ (x : Head). x.source) h) (ap (λ (x : Head). x.destination) h) (reply_llc ++ bs) (omega arith) (omega arith)).information in
    let long = length_full (head_in a).source (head_in a).destination ui (reply_llc ++ bs) (omega arith) in
    information_rest f (omega arith) ∙ ap (drop 3) i

-- an APDU that fits has room for LLC
sent_fits : (bs : List ℕ) → length bs ≤ apdu_room longest_sent → 3 + length bs ≤ longest_sent
unfolding longest_sent apdu_room
sent_fits bs h = omega arith

next_small : (n : ℕ) → next_counter n < 256 ^ 4
unfolding next_counter
next_small n = omega arith

-- an answer that fits opens
pub answer_opens : (c : CipherClient) (a : Lent) (l : Line) (kind : ServiceKind) (counter : ℕ) (wanted : List ℕ) → Asking c a l kind counter wanted → (text : List ℕ) → length text ≤ text_room longest_sent
    → opened (dedicated_keys a.ak c l) l.title (answer_tag (dedicated_tag kind)) (apdu_of (to_h a l c (dedicated_tag kind) text)) ≡ opens (next_counter (counters c l).sent) text
unfolding greatest_apdu longest_received
answer_opens c a l kind counter wanted k text fits =
    let number = next_counter (counters c l).sent in
    let request = sealed_envelope (dedicated_keys a.ak c l) (ciphering c l).peer.title (dedicated_tag kind) counter wanted in
    let answer = sealed_envelope (dedicated_keys a.ak c l) l.title (answer_tag (dedicated_tag kind)) number text in
    let short = k.sends.short in
    let m = length_envelope (dedicated_keys a.ak c l) (ciphering c l).peer.title (dedicated_tag kind) counter wanted in
    let n = length_envelope (dedicated_keys a.ak c l) l.title (answer_tag (dedicated_tag kind)) number text in
    let size = envelope_size (length text) in
    let most = envelope_fits (length text) fits in
    rw (reply_apdu a (Ciphering c) request answer k.sends.received (omega arith) (omega arith) (sent_fits answer (omega arith)))
    (opens_closed (dedicated_keys a.ak c l) l.title (answer_tag (dedicated_tag kind)) number text (next_small (counters c l).sent) (omega (arith, apdu_room_lem, longest_apdu_lem)))

second_row_answer : (a : Lent) (m : Model) (t : Clock) (counter invoke : ℕ) → sound m ≡ true → valid_clock t ≡ true → capture_due m.body.period t ≡ true
    → Asking Han a m.line Get counter (get_profile invoke) → length (rows_data (both_rows t m)) ≤ data_room longest_sent
    → outcome a (twice t m)
    ≡ record {
      refusal = 0;
      sent = to_h a m.line Han 0xD0 (get_answer invoke (granted (rows_data (both_rows t m))));
      next = record { line = advanced Han (accepted Han counter m.line); body = with_transfer idle (twice t m).body };
    }
unfolding after_due
second_row_answer a m t counter invoke s v d k fits =
    let n = after_due t (after_due t m) in
    let twice-sound : sound n ≡ true = after_sound t (after_due t m) (after_sound t m s v d) v (still_due t m s v d) in
    let read = profile_read (selective_in (Ciphering Han) m.line) (blocks_in (Ciphering Han) m.line) invoke n.body (both_rows t m) (both_rows_lem t m) fits in
    let line = advanced Han (accepted Han counter m.line) in
    rw (twice_due t m s v d)
    (next_counter_lem Han a n Get counter (get_profile invoke) (profile_asked invoke) twice-sound k (profile_asked_lem invoke)
    ∙ ap (λ (x : Turn). record { refusal = x.refusal; sent = to_h a m.line Han 0xD0 x.bytes; next = settled (record { line = line; body = x.body }) }) read
    ∙ ap (replied 0 (to_h a m.line Han 0xD0 (get_answer invoke (granted (rows_data (both_rows t m)))))) (settled_idle line n.body))

pub second_row_read : SecondRowRead
second_row_read a m t counter invoke s v d k fits =
    let answer = second_row_answer a m t counter invoke s v d k fits in
    let text = get_answer invoke (granted (rows_data (both_rows t m))) in
    record {
      answer = answer;
      found = rw answer (answer_opens Han a m.line Get counter (get_profile invoke) k text (read_fits invoke (granted (rows_data (both_rows t m))) fits));
    }

-- The meter of proofs/Enclosed, at its first clock.

some_valid : valid_clock new_clock ≡ true
unfolding valid_clock real_date real_time fixed_bytes days_in february_days
some_valid = refl

some_due : capture_due (some_meter no_counters).body.period new_clock ≡ true
unfolding new_meter capture_due
some_due = refl

some_asks : Asking Han (some_lent 1 (get_profile 0)) (some_line no_counters) Get 1 (get_profile 0)
unfolding envelope_length length_field greatest_apdu longest_received
some_asks = record { sends = some_sends no_counters 1 (get_profile 0) (lit< tt) (lit≤ tt); window = record { steps = 1; least = lit≤ tt; most = lit≤ tt; counts = refl } }

some_fits : length (rows_data (both_rows new_clock (some_meter no_counters))) ≤ data_room longest_sent
unfolding new_meter max_rows rows_data row_data flat_map length_field
some_fits = rw data_room_lem (lit≤ tt)

pub second_row_happens : SecondRowHappens
second_row_happens =
    record {
      lent = some_lent 1 (get_profile 0);
      meter = some_meter no_counters;
      clock = new_clock;
      counter = 1;
      invoke = 0;
      is_sound = some_sound no_counters;
      is_valid = some_valid;
      is_due = some_due;
      asks = some_asks;
      fits = some_fits;
    }
