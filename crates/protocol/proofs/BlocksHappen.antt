-- The meters and frames of which the statements of specs/InBlocks speak.
use mathlib.Core.Path.{◌≡◌, refl, sym, ap, ◌∙◌, subst}
use mathlib.Core.Bool.{Bool, true, false, cond}
use mathlib.Core.List.{List, [], ◌∷◌, ◌++◌, map, flat_map}
use Prim.Native.Nat.{ℕ, ◌+◌, ◌^◌, ◌≤◌, ◌<◌}
use native.Mathlib.Nat.{mod-eq_of_lt}
use native.Mathlib.Omega.{arith}
use lib.Dec.{lit<, lit≤}
use lib.ListN.{length, replicate}
use Rattle.wire.specs.Numbers.{length_field}
use Rattle.wire.specs.Reading.{same_bytes}
use Rattle.model.specs.declared.Client.TheVariants.{Ciphering}
use Rattle.model.specs.declared.CipherClient.TheVariants.{Han}
use Rattle.model.specs.declared.Counters.{Counters}
use Rattle.model.specs.declared.Register.{Register}
use Rattle.model.specs.Limits.{longest_sent, longest_received, greatest_apdu, envelope_length, data_room, max_rows, max_registers, max_columns}
use Rattle.model.specs.Names.{name_of}
use Rattle.model.specs.Clocks.{february_days, days_in, real_date, real_time, fixed_bytes, valid_clock}
use Rattle.model.specs.Periods.{periods}
use Rattle.model.specs.Services.{offered, within, get_service}
use Rattle.model.specs.Selecting.{Selection, all, selected, Picking, whole, numbered, dated, picking, range_selector, entry_selector, range_descriptor, described}
use Rattle.model.specs.State.{associated, Entry, profile, Transfer, idle, running, ended, Line, with_period, with_transfer, Model, with_line, with_body, with_store, keeping, no_counters, new_clock, new_meter}
use Rattle.model.specs.Soundness.{accepted_registers, accepted_columns, allowed, rows_allow, sound}
use Rattle.model.specs.Objects.{named, row_data, rows_data, these, entries_wrong, entries, picked}
use Rattle.model.specs.Calls.{Lent, frame, owner, set_period, Outcome, done, act, step}
use Rattle.model.specs.Archive.{rows_of}
use Rattle.model.specs.Blocks.{NextBlock, Fetches, last, more, between}
use Rattle.model.proofs.LimitFacts.{data_room_lem, block_room_lem}
use Rattle.model.proofs.ByDate.{whole_described, range_described}
use Rattle.model.proofs.Possible.{entry_descriptor, entries_described}
use Rattle.cosem.specs.declared.ServiceKind.TheVariants.{Get}
use Rattle.cosem.specs.Tags.{tag_of}
use Rattle.counters.specs.Advance.{next_counter, taken}
use Rattle.counters.specs.Window.{accepting}
use Rattle.counters.specs.Steps.{StepsInside}
use Rattle.protocol.specs.Clients.{associates, selective_in, blocks_in}
use Rattle.protocol.specs.Decide.{p2}
use Rattle.protocol.specs.Examples.{numbered_from}
use Rattle.protocol.specs.Outcomes.{outcome, enclosed_get}
use Rattle.protocol.specs.Lazy.{Asking}
use Rattle.protocol.specs.InBlocks.{get_rows, first_piece, LongBegun, AskedLong, EachAskedLong, LongReadHappens, next_request, piece_after, ends_after, NextRead, SecondBlockHappens, JoinedHappens, AskedByNumber, RefusalsHappen, WithoutTheBitHappens, LongWithoutTheBitHappens}
use Rattle.protocol.proofs.Claim.{p2_stays_sound}
use Rattle.protocol.proofs.Enclosed.{some_line, some_meter, some_lent}
use Rattle.protocol.proofs.ByDate.{hour_before, hour_after, dated_good, dated_inside}
use Rattle.protocol.proofs.LongReads.{length_next}
use Rattle.protocol.proofs.InBlocks.{long_read_begins, next_block_read}

-- The line of proofs/Enclosed, where H agreed on all that it is offered, or on all but block transfer.

abbrev services : (blocks : Bool) → List ℕ
services true = offered (Ciphering Han)
services false = 0x00 ∷ 0x00 ∷ 0x15 ∷ []

abbrev line : (blocks : Bool) → Counters → Line
line blocks n = associates (Ciphering Han) (associated (services blocks) (replicate 16 0)) (some_line n)

blocks_agreed : (blocks : Bool) (n : Counters) → blocks_in (Ciphering Han) (line blocks n) ≡ blocks
unfolding within
blocks_agreed true n = refl
blocks_agreed false n = refl

selective_agreed : (blocks : Bool) (n : Counters) → selective_in (Ciphering Han) (line blocks n) ≡ true
unfolding within
selective_agreed true n = refl
selective_agreed false n = refl

get_agreed : (blocks : Bool) → within get_service (services blocks) ≡ true
unfolding within
get_agreed true = refl
get_agreed false = refl

-- what its H asks, one counter on
one_step : (k : ℕ) → k + 1 < 256 ^ 4 → StepsInside k (k + 1)
one_step k h = record { steps = 1; least = lit≤ tt; most = lit≤ tt; counts = sym (mod-eq_of_lt h) }

line_asks : (blocks : Bool) (n : Counters) (text : List ℕ) → n.accepted + 1 < 256 ^ 4 → envelope_length (length text) ≤ greatest_apdu longest_received
    → Asking Han (some_lent (n.accepted + 1) text) (line blocks n) Get (n.accepted + 1) text
unfolding tag_of
line_asks blocks n text small short =
    record {
      sends =
          record {
            enough = record { room = omega arith; guk = refl; ak = refl; challenge = refl };
            may = enclosed_get (get_agreed blocks);
            small = small;
            short = short;
            received = refl;
          };
      window = one_step n.accepted small;
    }

-- by a number
number_asks : (blocks : Bool) (n : Counters) (number : ℕ) → n.accepted + 1 < 256 ^ 4 → number < 256 ^ 4
    → Asking Han (some_lent (n.accepted + 1) (next_request 0 number)) (line blocks n) Get (n.accepted + 1) (next_request 0 number)
unfolding envelope_length length_field greatest_apdu longest_received
number_asks blocks n number small little = line_asks blocks n (next_request 0 number) small (omega (arith, length_next 0 number little))

-- A meter with sixteen registers, all of them columns, and fifteen rows.

abbrev long_register : ℕ → Register
long_register n = record { name = named 1 0 n 8 0 255; readable = true; scaler = 0; unit = 30; value = n }

abbrev long_row : ℕ → Entry
long_row n = record { number = n; clock = new_clock; cells = replicate 16 n }

abbrev long_meter : (blocks : Bool) → Model
long_meter blocks =
    let rs = map long_register (numbered_from 16 1) in
    let new = some_meter no_counters in
    with_line (line blocks no_counters) (with_body (with_store (keeping rs (map name_of rs) (map long_row (numbered_from 15 1))) new.body) new)

long_sound : (blocks : Bool) → sound (long_meter blocks) ≡ true
unfolding sound new_meter accepted_registers accepted_columns same_bytes valid_clock real_date real_time fixed_bytes days_in february_days periods max_rows max_registers max_columns within allowed rows_allow
long_sound true = refl
long_sound false = refl

abbrev long_rows : List Entry
long_rows = rows_of (long_meter true)

long_length : length (rows_data long_rows) ≡ 1487
unfolding rows_data row_data flat_map length_field
long_length = refl

long_data_lem : data_room longest_sent < length (rows_data long_rows)
long_data_lem = rw (long_length, data_room_lem) (lit< tt)

-- a selection that means all its rows
module _ (blocks : Bool) (s : Selection) (p : Picking) (means : described true s ≡ picking p) (gives : picked p long_rows ≡ these long_rows) (short : envelope_length (length (get_rows 0 s)) ≤ greatest_apdu longest_received) where
  long_asked : AskedLong blocks p
  long_asked =
      record {
        lent = some_lent 1 (get_rows 0 s);
        meter = long_meter blocks;
        selection = s;
        rows = long_rows;
        counter = 1;
        invoke = 0;
        asks =
            record {
              is_sound = long_sound blocks;
              agreed = blocks_agreed blocks no_counters;
              means = rw (selective_agreed blocks no_counters) means;
              gives = gives;
              long = long_data_lem;
              asks = line_asks blocks no_counters (get_rows 0 s) (lit< tt) short;
            };
      }

long_of_all : (blocks : Bool) → AskedLong blocks whole
unfolding envelope_length length_field greatest_apdu longest_received
long_of_all blocks = long_asked blocks all whole (whole_described true) refl (lit≤ tt)

entries_give : picked (numbered 1 0) long_rows ≡ these long_rows
unfolding entries entries_wrong
entries_give = refl

clocks_give : picked (dated hour_before hour_after) long_rows ≡ these long_rows
clocks_give = rw dated_inside

each_asked : (blocks : Bool) → EachAskedLong blocks
unfolding envelope_length length_field greatest_apdu longest_received range_descriptor
each_asked blocks =
    record {
      of_all = long_of_all blocks;
      of_numbers = long_asked blocks (selected entry_selector (entry_descriptor 1 0)) (numbered 1 0) (entries_described 1 0 (lit< tt) (lit< tt)) entries_give (lit≤ tt);
      from = hour_before;
      to = hour_after;
      of_clocks = long_asked blocks (selected range_selector (range_descriptor hour_before hour_after)) (dated hour_before hour_after) (range_described hour_before hour_after refl refl dated_good) clocks_give (lit≤ tt);
    }

pub long_read_happens : LongReadHappens
long_read_happens = each_asked true

pub long_without_the_bit_happens : LongWithoutTheBitHappens
long_without_the_bit_happens = each_asked false

-- The requests after it.

-- that meter after block k of all its rows, with a frame for each
abbrev counted : ℕ → Counters
counted k = record { accepted = k; sent = k }

abbrev after_block : ℕ → Model
after_block k = record { line = line true (counted k); body = with_transfer (running (profile whole) k) (long_meter true).body }

-- the request for the next
abbrev next_lent : ℕ → Lent
next_lent k = some_lent (k + 1) (next_request 0 k)

next_asks : (k : ℕ) → k + 1 < 256 ^ 4 → Asking Han (next_lent k) (line true (counted k)) Get (k + 1) (next_request 0 k)
next_asks k small = number_asks true (counted k) k small (omega arith)

pub second_block_happens : SecondBlockHappens
unfolding long_of_all long_asked taken accepting next_counter
second_block_happens = record { begins = long_of_all true; lent = next_lent 1; counter = 2; invoke = 0; asks = next_asks 1 (lit< tt) }

-- Three blocks of all its rows, and a call between.

abbrev first_lent : Lent
first_lent = some_lent 1 (get_rows 0 all)

first_begun : LongBegun first_lent (long_meter true) whole long_rows 1 0
unfolding long_of_all long_asked
first_begun = long_read_begins first_lent (long_meter true) all whole long_rows 1 0 (long_of_all true).asks

after_first : (outcome first_lent (long_meter true)).next ≡ after_block 1
unfolding taken accepting next_counter
after_first = ap (λ (o : Outcome). o.next) first_begun.read.answer

first_sound : sound (after_block 1) ≡ true
first_sound = subst (λ (m : Model). sound m ≡ true) after_first (p2_stays_sound (frame first_lent) (long_meter true) (long_sound true))

second_read : NextRead (next_lent 1) (after_block 1) (profile whole) 1 2 0
second_read = next_block_read (next_lent 1) (after_block 1) (profile whole) 1 2 0 (record { is_sound = first_sound; runs = refl; small = lit< tt; asks = next_asks 1 (lit< tt) })

not_last : ends_after 1 (rows_data long_rows) ≡ false
not_last = rw (long_length, block_room_lem)

is_last : ends_after 2 (rows_data long_rows) ≡ true
is_last = rw (long_length, block_room_lem)

after_second : (outcome (next_lent 1) (after_block 1)).next ≡ after_block 2
unfolding taken accepting next_counter
after_second =
    ap (λ (o : Outcome). o.next) second_read.read.answer
    ∙ ap (λ (z : Bool). record { line = line true (counted 2); body = with_transfer (cond z idle (running (profile whole) 2)) (long_meter true).body }) not_last

second_sound : sound (after_block 2) ≡ true
second_sound = subst (λ (m : Model). sound m ≡ true) after_second (p2_stays_sound (frame (next_lent 1)) (after_block 1) first_sound)

-- the owner sets the period
abbrev after_call : Model
after_call = with_body (with_period 900 (after_block 2).body) (after_block 2)

period_set : step p2 (owner (set_period 900)) (after_block 2) ≡ done after_call
unfolding step act periods
period_set = rw second_sound

call_sound : sound after_call ≡ true
call_sound = subst (λ (o : Outcome). sound o.next ≡ true) period_set (p2_stays_sound (owner (set_period 900)) (after_block 2) second_sound)

third_read : NextRead (next_lent 2) after_call (profile whole) 2 3 0
third_read = next_block_read (next_lent 2) after_call (profile whole) 2 3 0 (record { is_sound = call_sound; runs = refl; small = lit< tt; asks = next_asks 2 (lit< tt) })

abbrev piece_of : ℕ → List ℕ
piece_of k = piece_after k (rows_data long_rows)

second_next : NextBlock p2 (frame (next_lent 1)) (after_block 1) 0x00 1 (piece_of 1)
second_next = subst (λ (z : Bool). NextBlock p2 (frame (next_lent 1)) (after_block 1) (cond z 0x01 0x00) 1 (piece_of 1)) not_last second_read.next

third_next : NextBlock p2 (frame (next_lent 2)) after_call 0x01 2 (piece_of 2)
third_next = subst (λ (z : Bool). NextBlock p2 (frame (next_lent 2)) after_call (cond z 0x01 0x00) 2 (piece_of 2)) is_last third_read.next

rest_fetched : Fetches p2 (after_block 1) 1 (frame (next_lent 1) ∷ owner (set_period 900) ∷ frame (next_lent 2) ∷ []) (piece_of 1 ++ piece_of 2)
rest_fetched =
    let leaves = ap (λ (o : Outcome). o.next.body.transfer) period_set in
    let third = subst (λ (o : Outcome). Fetches p2 o.next 2 (frame (next_lent 2) ∷ []) (piece_of 2)) (sym period_set) (last third_next) in
    more second_next
    (subst (λ (m : Model). Fetches p2 m 2 (owner (set_period 900) ∷ frame (next_lent 2) ∷ []) (piece_of 2)) (sym after_second) (between leaves third))

pub joined_happens : JoinedHappens
joined_happens =
    record {
      meter = long_meter true;
      one = first_lent;
      two = next_lent 1;
      between = set_period 900;
      three = next_lent 2;
      rows = long_rows;
      piece = first_piece long_rows;
      next = piece_of 1;
      rest = piece_of 1 ++ piece_of 2;
      first = first_begun.first;
      second = subst (λ (m : Model). NextBlock p2 (frame (next_lent 1)) m 0x00 1 (piece_of 1)) (sym after_first) second_next;
      is_accepted = rw (after_first, after_second, period_set);
      fetched =
          subst (λ (m : Model). Fetches p2 m 1 (frame (next_lent 1) ∷ owner (set_period 900) ∷ frame (next_lent 2) ∷ []) (piece_of 1 ++ piece_of 2)) (sym after_first)
          rest_fetched;
    }

-- A transfer of that meter, and a request by a number.

abbrev with_long : (blocks : Bool) → Transfer → Model
with_long blocks t = with_body (with_transfer t (long_meter blocks).body) (long_meter blocks)

number_asked : (blocks : Bool) (t : Transfer) (number : ℕ) → number < 256 ^ 4 → sound (with_long blocks t) ≡ true → AskedByNumber blocks t number
number_asked blocks t number small s =
    record {
      lent = some_lent 1 (next_request 0 number);
      meter = with_long blocks t;
      counter = 1;
      invoke = 0;
      asks = record { is_sound = s; agreed = blocks_agreed blocks no_counters; small = small; asks = number_asks blocks no_counters number (lit< tt) small };
      transfer = refl;
    }

pub refusals_happen : RefusalsHappen
unfolding sound new_meter accepted_registers accepted_columns same_bytes valid_clock real_date real_time fixed_bytes days_in february_days periods max_rows max_registers max_columns within allowed rows_allow rows_data row_data flat_map length_field
refusals_happen =
    record {
      meanwhile = number_asked true ended 1 (lit< tt) refl;
      none_runs = number_asked true idle 1 (lit< tt) (long_sound true);
      wrong_number = number_asked true (running (profile whole) 1) 2 (lit< tt) (rw (data_room_lem, block_room_lem));
    }

pub without_the_bit_happens : WithoutTheBitHappens
unfolding new_meter
without_the_bit_happens = number_asked false idle 1 (lit< tt) (long_sound false)
