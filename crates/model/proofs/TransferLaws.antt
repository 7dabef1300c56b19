-- Transfers: what is to come of one after each block, what a read begins, and what a numbered request brings.
use mathlib.Core.Path.{◌≡◌, refl, sym, ◌∙◌}
use mathlib.Core.Bool.{Bool, true, false, cond, not, ◌&&◌, false≢true}
use mathlib.Core.List.{List, [], ◌++◌, flat_map}
use Prim.Native.Nat.{ℕ, ◌+◌, ◌*◌, ◌≤◌, ◌<◌}
use native.Mathlib.Nat.{mul-zero}
use lib.ListN.{length, drop, drop_of_length-le}
use lib.Dec.{eqb, ltb, leb}
use borrow.Author.Tests.{eqb-true, eq-eqb, leb-true, leb-false, le-leb, lt-leb, ltb-true, lt-ltb}
use Rattle.wire.specs.Numbers.{length_field}
use Rattle.model.specs.declared.Name.{Name}
use Rattle.model.specs.Limits.{longest_sent, data_room, block_room}
use Rattle.model.specs.Services.{get_service, selective_access, block_transfer}
use Rattle.model.specs.Selecting.{Selection, all, selected, Picking, whole, numbered, dated, Described, picking, faulty, range_selector, entry_selector, is_range_descriptor, is_entry_descriptor, from_clock, to_clock, from_column, to_column, good_range, described_range, described_entries, described}
use Rattle.model.specs.State.{Line, Entry, Store, Long, profile, Transfer, idle, running, ended, runs, Body}
use Rattle.model.specs.Objects.{Content, simple, rows, record_number, register, Meaning, known, unknown, serves, Request, go_on, Result, granted, begun, denied, rows_data, attribute_data, Picked, these, wrong, picked, picked_by, takes_selector, begins, fitting, shown, attribute_read, block, is_last, picked_rows, long_data, went_out, next_turn, turned}
use Rattle.model.specs.Soundness.{has_agreed, could_ask, allowed, good_picking, could_grant, more_comes, rows_allow}
use Rattle.model.specs.Calls.{kept_by}
use Rattle.model.proofs.LimitFacts.{data_room_lem}
use Rattle.model.proofs.ListLaws.{both, both_true, by_test}
use Rattle.model.proofs.BlockLaws.{part_rest, block_part}

-- What is to come.

-- the data of the blocks that a transfer is still to bring
abbrev pub to_come : Store → Transfer → List ℕ
to_come s idle = []
to_come s (running x k) = drop (block_room longest_sent * k) (long_data x s)
to_come s ended = []

went_rest : (s : Store) (x : Long) (k : ℕ) → to_come s (went_out x k (long_data x s)) ≡ drop (block_room longest_sent * k) (long_data x s)
unfolding is_last
went_rest s x k =
    by_test (λ (t : Transfer). to_come s t ≡ drop (block_room longest_sent * k) (long_data x s)) (leb (length (long_data x s)) (block_room longest_sent * k))
    (λ e. sym (drop_of_length-le (long_data x s) (leb-true (length (long_data x s)) (block_room longest_sent * k) e))) (λ _. refl)

-- once the next block has gone out: what was to come, but for it
pub next_rest : (s : Store) (x : Long) (k : ℕ) → block (k + 1) (long_data x s) ++ to_come s (went_out x (k + 1) (long_data x s)) ≡ to_come s (running x k)
next_rest s x k = rw (went_rest s x (k + 1), block_part (k + 1) (long_data x s)) (part_rest (block_room longest_sent) k (long_data x s))

-- What the test of soundness says of a transfer that runs.
pub record Going (s : Store) (x : Long) (k : ℕ) : Type 0 where
  pub granted : could_grant x ≡ true
  pub long : data_room longest_sent < length (long_data x s)
  pub some : 1 ≤ k
  pub more : block_room longest_sent * k < length (long_data x s)

pub going : (s : Store) (x : Long) (k : ℕ) → rows_allow s (running x k) ≡ true → Going s x k
unfolding rows_allow
going s x k e =
    let n = length (long_data x s) in
    let c = both (could_grant x) (more_comes n k) e in
    let h = both (ltb (data_room longest_sent) n && leb 1 k) _ c.1 in
    let g = both (ltb (data_room longest_sent) n) _ h.0 in
    record { granted = c.0; long = ltb-true _ _ g.0; some = leb-true _ _ g.1; more = ltb-true _ _ h.1 }

pub goes : (s : Store) (x : Long) (k : ℕ) → Going s x k → rows_allow s (running x k) ≡ true
unfolding rows_allow
goes s x k h =
    both_true h.granted (both_true (both_true (lt-ltb _ _ h.long) (le-leb _ _ h.some)) (lt-ltb _ _ h.more))

-- the data of no rows are too short for a transfer
pub none_short : ltb (data_room longest_sent) (length (rows_data [])) ≡ false
unfolding rows_data flat_map length_field
none_short = rw data_room_lem

-- so a picking of which a transfer goes on gives rows
pub going_rows : (p : Picking) (s : Store) → data_room longest_sent < length (long_data (profile p) s) → picked p s.rows ≡ these (picked_rows (picked p s.rows))
going_rows p s h = go (picked p s.rows) h
  where
    go : (w : Picked) → data_room longest_sent < length (rows_data (picked_rows w)) → w ≡ these (picked_rows w)
    go (these rs) l = refl
    go (wrong c) l = absurd (false≢true (sym none_short ∙ lt-ltb _ _ l))

-- A read.

-- it has a selector
abbrev pub selects : Long → Bool
selects (profile whole) = false
selects (profile (numbered from to)) = true
selects (profile (dated from to)) = true

-- what is described is a good picking, and one with a selector only where a selector belongs
abbrev Good : Bool → Described → Type 0
Good belongs (picking p) = (good_picking p ≡ true) × (selects (profile p) ≡ true → belongs ≡ true)
Good belongs (faulty c) = Unit {0}

described_good : (belongs : Bool) (s : Selection) → Good belongs (described belongs s)
unfolding described described_range described_entries
described_good belongs all = (refl, λ f. absurd (false≢true f))
described_good belongs (selected k v) =
    by_test (Good belongs) (belongs && eqb k range_selector && is_range_descriptor v)
    (λ e. by_test (Good belongs) (good_range (from_clock v) (to_clock v)) (λ h. (h, λ _. first belongs _ _ e)) (λ _. tt)) λ _.
    by_test (Good belongs) (belongs && eqb k entry_selector && is_entry_descriptor v)
    (λ e. by_test (Good belongs) (eqb (from_column v) 1 && eqb (to_column v) 0) (λ _. (refl, λ _. first belongs _ _ e)) (λ _. tt)) λ _.
    tt
  where
    first : (a b c : Bool) → a && b && c ≡ true → a ≡ true
    first a b c e = (both a b (both (a && b) c e).0).0

-- What begins: a transfer of these data, "that one large frame would have held", with what was agreed.
pub record Begins (selective blocks : Bool) (s : Store) (t : Transfer) (d : List ℕ) : Type 0 where
  pub read : Long
  pub transfer : t ≡ running read 1
  pub granted : could_grant read ≡ true
  pub same : long_data read s ≡ d
  pub long : data_room longest_sent < length d
  pub agreed : blocks ≡ true
  pub selector : selects read ≡ true → selective ≡ true

module _ (selective blocks : Bool) (s : Store) where
  abbrev pub Begun : Result → Type 0
  Begun (granted d) = Unit {0}
  Begun (begun t d) = Begins selective blocks s t d
  Begun (denied c) = Unit {0}

  fitting_begins : (t : Transfer) (d : List ℕ) → (runs t ≡ true → data_room longest_sent < length d → blocks ≡ true → Begins selective blocks s t d) → Begun (fitting blocks t d)
  unfolding fitting
  fitting_begins t d h =
      by_test Begun (leb (length d) (data_room longest_sent)) (λ _. tt) λ e.
      by_test Begun (blocks && runs t) (λ f. let g = both blocks (runs t) f in h g.1 (leb-false (length d) (data_room longest_sent) e) g.0) λ _.
      tt

  idle_begins : (d : List ℕ) → Begun (fitting blocks idle d)
  idle_begins d = fitting_begins idle d (λ f. absurd (false≢true f))

module _ (selective blocks : Bool) (n : Name) (a : ℕ) (b : Body) where
  rows_begin : (p : Picking) (rs : List Entry) → Good (eqb a 2 && selective) (picking p) → picked p b.store.rows ≡ these rs
      → Begun selective blocks b.store (shown blocks (begins rows a (picking p)) rows n a b (these rs))
  unfolding attribute_data
  rows_begin p rs g e = go (eqb a 2) refl
    where
      go : (c : Bool) → eqb a 2 ≡ c → Begun selective blocks b.store (fitting blocks (cond c (running (profile p) 1) idle) (attribute_data rows n a rs b))
      go false f = idle_begins selective blocks b.store _
      go true f =
          rw (eqb-true a 2 f)
          (fitting_begins selective blocks b.store (running (profile p) 1) (rows_data rs)
          (λ _ l h.
          record {
            read = profile p;
            transfer = refl;
            granted = g.0;
            same = rw e;
            long = l;
            agreed = h;
            selector = λ i. (both (eqb a 2) selective (g.1 i)).1;
          }))

  picked_begins : (x : Content) (p : Picking) (w : Picked) → Good (takes_selector x a && selective) (picking p) → picked p b.store.rows ≡ w
      → Begun selective blocks b.store (shown blocks (begins x a (picking p)) x n a b w)
  picked_begins x p (wrong c) g e = tt
  picked_begins (simple y) p (these rs) g e = idle_begins selective blocks b.store _
  picked_begins rows p (these rs) g e = rows_begin p rs g e
  picked_begins record_number p (these rs) g e = idle_begins selective blocks b.store _
  picked_begins (register r) p (these rs) g e = idle_begins selective blocks b.store _

  shown_begins : (x : Content) (d : Described) → Good (takes_selector x a && selective) d
      → Begun selective blocks b.store (shown blocks (begins x a d) x n a b (picked_by d b.store.rows))
  shown_begins x (picking p) g = picked_begins x p (picked p b.store.rows) g refl
  shown_begins x (faulty c) g = tt

pub read_begins : (q : Request) (a : ℕ) (s : Selection) (b : Body) (w : Meaning) → Begun q.selective q.blocks b.store (attribute_read q a s b w)
unfolding attribute_read
read_begins q a s b unknown = tt
read_begins q a s b (known o) =
    by_test (Begun q.selective q.blocks b.store) (not (eqb q.class o.class)) (λ _. tt) λ _.
    by_test (Begun q.selective q.blocks b.store) (not (serves o.attributes a)) (λ _. tt) λ _.
    shown_begins q.selective q.blocks q.name a b o.content (described (takes_selector o.content a && q.selective) s) (described_good (takes_selector o.content a && q.selective) s)

-- data too long for one frame begin the transfer, where blocks are agreed
pub long_begins : (t : Transfer) (d : List ℕ) → runs t ≡ true → data_room longest_sent < length d → fitting true t d ≡ begun t d
unfolding fitting
long_begins t d r h = rw (lt-leb (length d) (data_room longest_sent) h, r)

-- a line that has what was agreed in force keeps the transfer
pub begun_kept : {selective blocks : Bool} {s : Store} {t : Transfer} {d : List ℕ} (l : Line) → Begins selective blocks s t d
    → has_agreed get_service l ≡ true → (selective ≡ true → has_agreed selective_access l ≡ true) → (blocks ≡ true → has_agreed block_transfer l ≡ true) → kept_by l t ≡ t
unfolding allowed
begun_kept l h g f e = rw (h.transfer, both_true (both_true g (e h.agreed)) (asks h.read (λ i. f (h.selector i))))
  where
    asks : (x : Long) → (selects x ≡ true → has_agreed selective_access l ≡ true) → could_ask x l ≡ true
    asks (profile whole) k = refl
    asks (profile (numbered from to)) k = k refl
    asks (profile (dated from to)) k = k refl

-- after the first block: the data, but for it
pub first_rest : {selective blocks : Bool} {s : Store} {t : Transfer} {d : List ℕ} → Begins selective blocks s t d → block 1 d ++ to_come s t ≡ d
first_rest {s = s} {d = d} h =
    rw (h.transfer, h.same, block_part 1 d) (part_rest (block_room longest_sent) 0 d ∙ rw mul-zero)

-- Numbered requests.

-- one with the number of the block that went out last is answered by the next
pub goes_on_lem : (i k : ℕ) (x : Long) (b : Body) → b.transfer ≡ running x k → turned (go_on i k) b ≡ next_turn i x k b
unfolding turned
goes_on_lem i k x b e = rw (e, eq-eqb k k refl)
