-- The blocks of a transfer joined are the data, over any list of calls that leaves it; all but the last are full; no read is too long;
-- and the three blocks of sixteen columns. The statements on them of specs/Blocks, proved.
use mathlib.Core.Path.{◌≡◌, refl, sym, ◌∙◌, ap, ap₂}
use mathlib.Core.Bool.{Bool, true, false, cond, not, ◌&&◌, false≢true}
use mathlib.Core.List.{List, [], ◌∷◌, ◌++◌, flat_map, append-nil}
use Prim.Native.Nat.{ℕ, suc, ◌+◌, ◌*◌, ◌≤◌, ◌<◌}
use native.Mathlib.Omega.{arith}
use lib.ListN.{length, drop, get_or, length-append, length-take}
use lib.Dec.{eqb, leb, lit<}
use borrow.Author.Tests.{eqb-true, eq-eqb, le-leb}
use Rattle.wire.specs.Numbers.{length_field}
use Rattle.wire.proofs.NumberLaws.{length_high}
use Rattle.wire.proofs.LengthLaws.{field_one}
use Rattle.model.specs.declared.Name.{Name}
use Rattle.model.specs.declared.Client.{Client}
use Rattle.model.specs.Limits.{longest_sent, data_room, block_room}
use Rattle.model.specs.Names.{every}
use Rattle.model.specs.Selecting.{Selection, all, selected, Picking, whole, numbered, dated, Described, picking, faulty, range_selector, entry_selector, is_range_descriptor, is_entry_descriptor, from_clock, to_clock, from_column, to_column, good_range, described_range, described_entries, described}
use Rattle.model.specs.State.{Line, Entry, Store, profile, Transfer, idle, running, ended, runs, Body, Model, with_transfer}
use Rattle.model.specs.Objects.{Simple, clock, time, date, device, Content, simple, rows, record_number, register, Meaning, known, unknown, meaning, serves, get, Request, ask, go_on, Result, granted, begun, denied, unsigned32, row_data, rows_data, simple_data, value_data, scaler_data, attribute_data, Picked, these, wrong, entries_wrong, entries, picked, picked_by, takes_selector, begins, fitting, shown, attribute_read, block, is_last, block_answer, picked_rows, long_data, went_out, Turn, get_answer, after_read, transfer_after, turned}
use Rattle.model.specs.Soundness.{allowed}
use Rattle.model.specs.Calls.{Call, Outcome, serve, Protocol, decided, kept_by, settles, act, step}
use Rattle.model.specs.Blocks.{block_bytes, FirstBlock, NextBlock, AllButLastFull, Fetches, last, more, between, JoinedAreTheData, Measured, NeverTooLong, answered_by, LeftOfTransfer, stopped, unmoved, moved, began, ThreeBlocks, SixteenColumns}
use Rattle.model.specs.ByDate.{read_turn}
use Rattle.model.proofs.LimitFacts.{data_room_lem, block_room_lem}
use Rattle.model.proofs.ListLaws.{both, both_true, by_test}
use Rattle.model.proofs.BlockLaws.{answer_bytes, bytes_only, part, parts, block_part, blocks_join, block_full}
use Rattle.model.proofs.TransferLaws.{to_come, next_rest, Begins, first_rest, goes_on_lem}
use Rattle.model.proofs.ByDate.{whole_turned}
use Rattle.model.proofs.Transfers.{granted_acts, frame_acts, read_result, asked_turned, began_by, first_of_more, went_on, marked_last, marked_more, transfers_are_reads}

-- The first block.

-- an answer that is block 1: that of data too long for one frame
record FirstOf (r : Result) (piece : List ℕ) : Type 0 where
  transfer : Transfer
  long : List ℕ
  begun : r ≡ begun transfer long
  is : block 1 long ≡ piece

first_of : (i n : ℕ) (piece : List ℕ) (r : Result) → get_answer i r ≡ block_bytes i n 1 piece → FirstOf r piece
first_of i n piece (granted d) e = let f = ap (λ (xs : List ℕ). get_or xs 1 0) e in absurd (omega (arith, f))
first_of i n piece (begun t d) e =
    record { transfer = t; long = d; begun = refl; is = (bytes_only i (cond (is_last 1 d) 0x01 0x00) n 1 (block 1 d) piece (sym (answer_bytes i 1 d) ∙ e)).1 }
first_of i n piece (denied c) e = let f = ap (λ (xs : List ℕ). get_or xs 1 0) e in absurd (omega (arith, f))

record Opened (p : Protocol) (c : Call) (m : Model) (rs : List Entry) (piece : List ℕ) : Type 0 where
  selective : Bool
  blocks : Bool
  transfer : Transfer
  line : Line
  begins : Begins selective blocks m.body.store transfer (rows_data rs)
  is : block 1 (rows_data rs) ≡ piece
  next : (step p c m).next.body ≡ with_transfer (kept_by line transfer) m.body

opened : (p : Protocol) (c : Call) (m : Model) (rs : List Entry) (piece : List ℕ) → FirstBlock p c m rs piece → Opened p c m rs piece
opened p c m rs piece h =
    let q = h.request in
    let s = h.selection in
    let v = asked_turned q (get 2 s) m.body h.service in
    let o = first_of q.invoke 0x00 piece (read_result q 2 s m.body) (sym (ap (λ (t : Turn). t.bytes) v) ∙ h.bytes) in
    let g = began_by q 2 s m.body o.transfer o.long o.begun in
    let d : rows_data rs ≡ o.long = ap (λ (x : Picked). rows_data (picked_rows x)) (sym h.picks ∙ g.long.picks) ∙ g.long.same in
    let u : step p c m ≡ settles (decided p (serve (ask q) h.wrap h.line) m) =
    granted_acts p c m h.granted ∙ ap (λ (x : Call). act p x m) h.call ∙ frame_acts p h.lent m (ask q) h.wrap h.line h.decided in
    record {
      selective = q.selective;
      blocks = q.blocks;
      transfer = o.transfer;
      line = h.line;
      begins = rw d g.begins;
      is = rw d o.is;
      next =
          ap (λ (x : Outcome). x.next.body) u
          ∙ ap (λ (t : Turn). with_transfer (kept_by h.line t.body.transfer) t.body) v
          ∙ ap (λ (x : Client). with_transfer (kept_by h.line (after_read x (read_result q 2 s m.body) m.body).transfer) (after_read x (read_result q 2 s m.body) m.body)) h.client
          ∙ ap (λ (r : Result). with_transfer (kept_by h.line (transfer_after r)) m.body) o.begun;
    }

-- "all but the last are full"
pub all_but_last_full : (p : Protocol) → AllButLastFull p
all_but_last_full p =
    record {
      first = λ c m rs piece h. let o = opened p c m rs piece h in sym (ap length o.is) ∙ block_full 0 (rows_data rs) (first_of_more o.begins);
      next =
          λ c m k piece h.
          let g = went_on p c m 0x00 k piece h in
          let xs = long_data g.read m.body.store in
          sym (ap length g.is) ∙ block_full k xs (marked_more (is_last (k + 1) xs) g.marked);
    }

-- Joined.

-- a transfer that the line keeps running is the one that the body left
kept_runs : (l : Line) (t : Transfer) → runs (kept_by l t) ≡ true → kept_by l t ≡ t
kept_runs l t r = go (allowed l t) r
  where
    go : (a : Bool) → runs (cond a t idle) ≡ true → cond a t idle ≡ t
    go true e = refl
    go false e = absurd (false≢true e)

-- what is to come stands in the rows
come_rows : (s z : Store) (t : Transfer) → s.rows ≡ z.rows → to_come s t ≡ to_come z t
come_rows s z idle e = refl
come_rows s z (running (profile p) k) e = ap (λ (rs : List Entry). drop (block_room longest_sent * k) (rows_data (picked_rows (picked p rs)))) e
come_rows s z ended e = refl

-- after a call that leaves a transfer running the rows are as they were
rows_as_they_were : (p : Protocol) (c : Call) (m : Model) → runs (step p c m).next.body.transfer ≡ true → (step p c m).next.body.store.rows ≡ m.body.store.rows
rows_as_they_were p c m r = go (transfers_are_reads p c m)
  where
    go : LeftOfTransfer p c m (step p c m) → (step p c m).next.body.store.rows ≡ m.body.store.rows
    go (stopped e) = absurd (false≢true (sym e ∙ r))
    go (unmoved e f) = ap (λ (t : List Entry × List Name). t.0) f
    go (moved x k piece e f g h) = ap (λ (t : List Entry × List Name). t.0) g
    go (began x rs piece e h) = ap (λ (b : Body). b.store.rows) (opened p c m rs piece h).next

-- what a list of calls fetches is what was to come
record Fetched (m : Model) (rest : List ℕ) : Type 0 where
  running : runs m.body.transfer ≡ true
  is : rest ≡ to_come m.body.store m.body.transfer

-- one more block, and then the rest
more_fetched : (p : Protocol) (c : Call) (m : Model) (k : ℕ) (piece rest : List ℕ) → NextBlock p c m 0x00 k piece → Fetched (step p c m).next rest → Fetched m (piece ++ rest)
more_fetched p c m k piece rest h f =
    let g = went_on p c m 0x00 k piece h in
    let t = went_out g.read (k + 1) (long_data g.read m.body.store) in
    let r : kept_by g.line t ≡ t = kept_runs g.line t (sym (ap (λ (b : Body). runs b.transfer) g.next) ∙ f.running) in
    let e : rest ≡ to_come m.body.store t = f.is ∙ ap (λ (b : Body). to_come b.store b.transfer) g.next ∙ ap (to_come m.body.store) r in
    record {
      running = ap runs g.was;
      is = ap₂ ◌++◌ (sym g.is) e ∙ next_rest m.body.store g.read k ∙ sym (ap (to_come m.body.store) g.was);
    }

last_fetched : (p : Protocol) (c : Call) (m : Model) (k : ℕ) (piece : List ℕ) → NextBlock p c m 0x01 k piece → Fetched m piece
last_fetched p c m k piece h =
    let g = went_on p c m 0x01 k piece h in
    let xs = long_data g.read m.body.store in
    let e = marked_last (is_last (k + 1) xs) g.marked in
    let n : block (k + 1) xs ++ [] ≡ to_come m.body.store (running g.read k) = rw e at (next_rest m.body.store g.read k) in
    record {
      running = ap runs g.was;
      is = sym g.is ∙ sym (append-nil (block (k + 1) xs)) ∙ n ∙ sym (ap (to_come m.body.store) g.was);
    }

all_fetched : (p : Protocol) {m : Model} {k : ℕ} {cs : List Call} {rest : List ℕ} → Fetches p m k cs rest → Fetched m rest
all_fetched p (last {m} {k} {c} {piece} h) = last_fetched p c m k piece h
all_fetched p (more {m} {k} {c} {cs} {piece} {rest} h f) = more_fetched p c m k piece rest h (all_fetched p f)
all_fetched p (between {m} {k} {c} {cs} {rest} e f) =
    let g = all_fetched p f in
    record {
      running = sym (ap runs e) ∙ g.running;
      is = g.is ∙ come_rows (step p c m).next.body.store m.body.store (step p c m).next.body.transfer (rows_as_they_were p c m g.running) ∙ ap (to_come m.body.store) e;
    }

pub joined_are_the_data : (p : Protocol) → JoinedAreTheData p
joined_are_the_data p c cs m rs first rest h f =
    let o = opened p c m rs first h in
    let g = all_fetched p f in
    let r : kept_by o.line o.transfer ≡ o.transfer = kept_runs o.line o.transfer (sym (ap (λ (b : Body). runs b.transfer) o.next) ∙ g.running) in
    let e : rest ≡ to_come m.body.store o.transfer = g.is ∙ ap (λ (b : Body). to_come b.store b.transfer) o.next ∙ ap (to_come m.body.store) r in
    ap₂ ◌++◌ (sym o.is) e ∙ first_rest o.begins

-- No read is too long: where blocks are agreed, no denial is 250.

abbrev too_long : Result → Bool
too_long (granted d) = false
too_long (begun t d) = false
too_long (denied c) = eqb c 250

abbrev faulty_long : Described → Bool
faulty_long (picking p) = false
faulty_long (faulty c) = eqb c 250

abbrev wrong_long : Picked → Bool
wrong_long (these rs) = false
wrong_long (wrong c) = eqb c 250

described_short : (belongs : Bool) (s : Selection) → faulty_long (described belongs s) ≡ false
unfolding described described_range described_entries
described_short belongs all = refl
described_short belongs (selected k v) =
    by_test Short (belongs && eqb k range_selector && is_range_descriptor v) (λ _. by_test Short (good_range (from_clock v) (to_clock v)) (λ _. refl) (λ _. refl)) λ _.
    by_test Short (belongs && eqb k entry_selector && is_entry_descriptor v) (λ _. by_test Short (eqb (from_column v) 1 && eqb (to_column v) 0) (λ _. refl) (λ _. refl)) λ _.
    refl
  where
    Short : Described → Type 0
    Short d = faulty_long d ≡ false

picked_short : (p : Picking) (rs : List Entry) → wrong_long (picked p rs) ≡ false
unfolding entries
picked_short whole rs = refl
picked_short (numbered from to) rs = by_test (λ (w : Picked). wrong_long w ≡ false) (entries_wrong from to (length rs)) (λ _. refl) (λ _. refl)
picked_short (dated from to) rs = refl

small_fits : (blocks : Bool) (t : Transfer) (d : List ℕ) → length d ≤ 18 → too_long (fitting blocks t d) ≡ false
unfolding fitting
small_fits blocks t d h = rw (le-leb (length d) (data_room longest_sent) (omega (arith, data_room_lem)))

running_fits : (blocks : Bool) (t : Transfer) (d : List ℕ) → blocks ≡ true → runs t ≡ true → too_long (fitting blocks t d) ≡ false
unfolding fitting
running_fits blocks t d e r =
    by_test (λ (x : Result). too_long x ≡ false) (leb (length d) (data_room longest_sent)) (λ _. refl)
    (λ _. ap (λ (z : Bool). too_long (cond z (begun t d) (denied 250))) (both_true e r))

module _ (n : Name) (b : Body) (h : Measured n b) where
  simple_small : (y : Simple) → length (simple_data y b) ≤ 18
  simple_small clock = omega (arith, h.clock)
  simple_small time = simp length-take (omega arith)
  simple_small date = simp length-take (omega arith)
  simple_small device = omega (arith, h.device)

  scaler_small : (x : Content) → length (scaler_data x) ≤ 18
  scaler_small (simple y) = omega arith
  scaler_small rows = omega arith
  scaler_small record_number = omega arith
  scaler_small (register r) = omega arith

  -- what neither the rows nor a transfer has a part in
  small_data : (x : Content) (a : ℕ) (rs : List Entry) → (eqb a 2 ≡ true → length (value_data x rs b) ≤ 18) → length (attribute_data x n a rs b) ≤ 18
  unfolding attribute_data
  small_data x a rs k =
      by_test (λ (d : List ℕ). length d ≤ 18) (eqb a 1) (λ _. omega (arith, h.name)) λ _.
      by_test (λ (d : List ℕ). length d ≤ 18) (eqb a 2) k λ _.
      scaler_small x

  module _ (blocks : Bool) (e : blocks ≡ true) (a : ℕ) where
    rows_short : (p : Picking) (rs : List Entry) → too_long (fitting blocks (cond (eqb a 2) (running (profile p) 1) idle) (attribute_data rows n a rs b)) ≡ false
    rows_short p rs = go (eqb a 2) refl
      where
        go : (z : Bool) → eqb a 2 ≡ z → too_long (fitting blocks (cond z (running (profile p) 1) idle) (attribute_data rows n a rs b)) ≡ false
        go true f = running_fits blocks (running (profile p) 1) _ e refl
        go false f = small_fits blocks idle _ (small_data rows a rs (λ g. absurd (false≢true (sym f ∙ g))))

    shown_short : (x : Content) (p : Picking) (w : Picked) → wrong_long w ≡ false → too_long (shown blocks (begins x a (picking p)) x n a b w) ≡ false
    shown_short x p (wrong c) f = f
    shown_short (simple y) p (these rs) f = small_fits blocks idle _ (small_data (simple y) a rs (λ _. simple_small y))
    shown_short rows p (these rs) f = rows_short p rs
    shown_short record_number p (these rs) f = small_fits blocks idle _ (small_data record_number a rs (λ _. omega (arith, length_high 2 b.number)))
    shown_short (register r) p (these rs) f = small_fits blocks idle _ (small_data (register r) a rs (λ _. omega (arith, length_high 4 r.value)))

    served_short : (x : Content) (d : Described) → faulty_long d ≡ false → too_long (shown blocks (begins x a d) x n a b (picked_by d b.store.rows)) ≡ false
    served_short x (picking p) f = shown_short x p (picked p b.store.rows) (picked_short p b.store.rows)
    served_short x (faulty c) f = f

read_short : (q : Request) (a : ℕ) (s : Selection) (b : Body) → q.blocks ≡ true → Measured q.name b → (w : Meaning) → too_long (attribute_read q a s b w) ≡ false
unfolding attribute_read
read_short q a s b e h unknown = refl
read_short q a s b e h (known o) =
    by_test (λ (r : Result). too_long r ≡ false) (not (eqb q.class o.class)) (λ _. refl) λ _.
    by_test (λ (r : Result). too_long r ≡ false) (not (serves o.attributes a)) (λ _. refl) λ _.
    served_short q.name b h q.blocks e a o.content (described (takes_selector o.content a && q.selective) s) (described_short (takes_selector o.content a && q.selective) s)

-- and no other answer has the bytes of that denial
short_bytes : (i : ℕ) (r : Result) → too_long r ≡ false → get_answer i r ≡ 0xC4 ∷ 0x01 ∷ i ∷ 0x01 ∷ 250 ∷ [] → ⊥
unfolding block_answer
short_bytes i (granted d) f e = let g = ap (λ (xs : List ℕ). get_or xs 3 0) e in omega (arith, g)
short_bytes i (begun t d) f e = let g = ap (λ (xs : List ℕ). get_or xs 1 0) e in omega (arith, g)
short_bytes i (denied c) f e = false≢true (sym f ∙ eq-eqb c 250 (ap (λ (xs : List ℕ). get_or xs 4 0) e))

pub never_too_long : NeverTooLong
never_too_long q a s b e k h f =
    short_bytes q.invoke (read_result q a s b) (read_short q a s b k h (meaning q.client q.name b.store.registers))
    (sym (ap (λ (t : Turn). t.bytes) (asked_turned q (get a s) b e)) ∙ f)

-- Sixteen columns.

-- a row of c cells takes 19 + 5 * c bytes

length_cells : (vs : List ℕ) → length (flat_map unsigned32 vs) ≡ 5 * length vs
unfolding flat_map
length_cells [] = refl
length_cells (v ∷ vs) = length-append (unsigned32 v) (flat_map unsigned32 vs) ∙ omega (arith, length_cells vs, length_high 4 v)

length_row : (r : Entry) (c : ℕ) → length r.clock.bytes ≡ 12 → length r.cells ≡ c → c < 126 → length (row_data r) ≡ 19 + 5 * c
unfolding row_data
length_row r c t n h =
    let k : length (r.clock.bytes ++ flat_map unsigned32 r.cells) ≡ 12 + 5 * c = length-append r.clock.bytes (flat_map unsigned32 r.cells) ∙ omega (arith, length_cells r.cells) in
    rw (field_one (2 + length r.cells) (omega arith)) (ap (λ (j : ℕ). suc (suc (suc (suc (suc (suc (suc j))))))) k ∙ omega arith)

length_rows : (i : ℕ) (rs : List Entry) → every (λ n r. eqb (length r.clock.bytes) 12) i rs ≡ true → every (λ n r. eqb (length r.cells) 16) i rs ≡ true
    → length (flat_map row_data rs) ≡ 99 * length rs
unfolding flat_map
length_rows i [] t n = refl
length_rows i (r ∷ rs) t n =
    let f = both (eqb (length r.clock.bytes) 12) _ t in
    let g = both (eqb (length r.cells) 16) _ n in
    let k = length_row r 16 (eqb-true _ _ f.0) (eqb-true _ _ g.0) (lit< tt) in
    length-append (row_data r) (flat_map row_data rs) ∙ omega (arith, k, length_rows (suc i) rs f.1 g.1)

module _ (b : Body) (d : List ℕ) (same : rows_data b.store.rows ≡ d) (long : length d ≡ 1487) where
  whole_begins : fitting true (running (profile whole) 1) d ≡ begun (running (profile whole) 1) d
  unfolding fitting
  whole_begins = rw (long, data_room_lem)

  one_more : is_last 1 d ≡ false
  unfolding is_last
  one_more = rw (long, block_room_lem)

  two_more : is_last 2 d ≡ false
  unfolding is_last
  two_more = rw (long, block_room_lem)

  three_last : is_last 3 d ≡ true
  unfolding is_last
  three_last = rw (long, block_room_lem)

  -- the answer with block k, the last or not
  as_block : (i k : ℕ) (z : Bool) (t : Transfer) → is_last k d ≡ z
      → ◌≡◌ {A = Turn} (record { refusal = 0; bytes = block_answer i k d; body = with_transfer t b }) (answered_by (block_bytes i (cond z 0x01 0x00) k (block k d)) t b)
  as_block i k z t e = ap (λ (bs : List ℕ). answered_by bs t b) (answer_bytes i k d ∙ ap (λ (x : Bool). block_bytes i (cond x 0x01 0x00) k (block k d)) e)

  next_block : (i k : ℕ) (z : Bool) → is_last (k + 1) d ≡ z
      → turned (go_on i k) (with_transfer (running (profile whole) k) b)
      ≡ answered_by (block_bytes i (cond z 0x01 0x00) (k + 1) (block (k + 1) d)) (cond z idle (running (profile whole) (k + 1))) b
  next_block i k z e =
      goes_on_lem i k (profile whole) (with_transfer (running (profile whole) k) b) refl
      ∙ ap (λ (xs : List ℕ). record { refusal = 0; bytes = block_answer i (k + 1) xs; body = with_transfer (went_out (profile whole) (k + 1) xs) b }) same
      ∙ as_block i (k + 1) z (went_out (profile whole) (k + 1) d) e
      ∙ ap (λ (x : Bool). answered_by (block_bytes i (cond z 0x01 0x00) (k + 1) (block (k + 1) d)) (cond x idle (running (profile whole) (k + 1))) b) e

  three_join : block 1 d ++ (block 2 d ++ block 3 d) ≡ d
  unfolding parts
  three_join =
      rw (block_part 1 d, block_part 2 d, block_part 3 d, ← append-nil (part (block_room longest_sent) 3 d)) (blocks_join 3 d three_last)

  three_blocks : (i j k : ℕ) → ThreeBlocks b i j k
  three_blocks i j k =
      record {
        one = block 1 d;
        two = block 2 d;
        three = block 3 d;
        one_full = block_full 0 d one_more;
        two_full = block_full 1 d two_more;
        first =
            whole_turned true i b
            ∙ ap (λ (xs : List ℕ). read_turn i (fitting true (running (profile whole) 1) xs) b) same
            ∙ ap (λ (r : Result). read_turn i r b) whole_begins
            ∙ as_block i 1 false (running (profile whole) 1) one_more;
        second = next_block j 1 false two_more;
        third = next_block k 2 true three_last;
        joined = three_join ∙ sym same;
      }

pub sixteen_columns : SixteenColumns
unfolding rows_data
sixteen_columns b i j k n t c =
    let h = length_rows 0 b.store.rows t c in
    let f = ap length (field_one (length b.store.rows) (omega arith)) in
    three_blocks b (rows_data b.store.rows) refl (omega (arith, length-append (length_field (length b.store.rows)) (flat_map row_data b.store.rows))) i j k
