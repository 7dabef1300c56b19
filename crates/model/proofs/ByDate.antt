-- Rows by date: the statements of specs/ByDate, proved, but for the order of clocks (proofs/ClockOrder).
use mathlib.Core.Path.{◌≡◌, refl, sym, ap, ◌∙◌}
use mathlib.Core.Bool.{Bool, true, false, cond, not, ◌&&◌, false≢true}
use mathlib.Core.List.{List, [], ◌∷◌, ◌++◌, flat_map}
use Prim.Native.Nat.{ℕ, suc, ◌+◌}
use native.Mathlib.Omega.{arith}
use lib.Dec.{eqb, leb}
use lib.ListN.{length, take, drop, length-append}
use lib.Seq.{take_at, drop-append-add}
use borrow.Author.Tests.{eqb-true}
use Rattle.wire.specs.Numbers.{length_field}
use Rattle.wire.specs.Reading.{same_bytes}
use Rattle.wire.proofs.SameLaws.{same_self, same_equal}
use Rattle.model.specs.declared.Clock.{Clock}
use Rattle.model.specs.Limits.{longest_sent, data_room}
use Rattle.model.specs.Names.{every}
use Rattle.model.specs.Clocks.{clock_data, in_range}
use Rattle.model.specs.Selecting.{Selection, all, selected, Picking, whole, dated, picking, range_selector, no_columns, range_descriptor, is_range_descriptor, from_clock, to_clock, good_range, described_range, described}
use Rattle.model.specs.State.{Entry, profile, running, Body}
use Rattle.model.specs.Objects.{ask, granted, begun, denied, rows_within, rows_data, attribute_data, these, picked, fitting, attribute_read, turned}
use Rattle.model.specs.ByDate.{RangesDescribed, NoOtherRange, Kept, done, taken, left, KeptWithin, profile_asked, profile_request, read_turn, rows_result, RangeReads, NoneInRange, SameAnswer, AllInRange, BothKept, OtherShape, BadRange, OtherSelector, NotAgreed}
use Rattle.model.proofs.LimitFacts.{data_room_lem}
use Rattle.model.proofs.ListLaws.{both}

-- Descriptors.

module _ (from to : Clock) (f : length from.bytes ≡ 12) (t : length to.bytes ≡ 12) where
  -- what stands behind from
  abbrev behind_from : List ℕ
  behind_from = clock_data to ++ no_columns

  first_found : from_clock (range_descriptor from to) ≡ from
  unfolding range_descriptor
  first_found = ap (λ (bs : List ℕ). record { bytes = bs }) (take_at from.bytes behind_from 12 f)

  last_found : to_clock (range_descriptor from to) ≡ to
  unfolding range_descriptor
  last_found =
      ap (λ (bs : List ℕ). record { bytes = take 12 bs })
      (ap (λ (k : ℕ). drop (k + 2) (from.bytes ++ behind_from)) (sym f) ∙ drop-append-add from.bytes behind_from 2)
      ∙ ap (λ (bs : List ℕ). record { bytes = bs }) (take_at to.bytes no_columns 12 t)

  descriptor_long : length (range_descriptor from to) ≡ 50
  unfolding range_descriptor
  descriptor_long =
      let n = length-append from.bytes behind_from in
      let k = length-append to.bytes no_columns in
      omega arith

  is_descriptor : is_range_descriptor (range_descriptor from to) ≡ true
  unfolding is_range_descriptor
  is_descriptor = rw (descriptor_long, first_found, last_found) (same_self (range_descriptor from to))

pub ranges_described : RangesDescribed
ranges_described from to f t = record { is = is_descriptor from to f t; first = first_found from to f t; last = last_found from to f t }

pub no_other_range : NoOtherRange
unfolding is_range_descriptor
no_other_range v e =
    let h = both (eqb (length v) 50) _ e in (eqb-true (length v) 50 h.0, same_equal v (range_descriptor (from_clock v) (to_clock v)) h.1)

-- Rows.

pub rows_kept : (from to : Clock) (rs : List Entry) → KeptWithin from to rs (rows_within from to rs)
rows_kept from to [] = done
rows_kept from to (r ∷ rs) = go (in_range from to r.clock) refl (rows_kept from to rs)
  where
    go : (b : Bool) → in_range from to r.clock ≡ b → KeptWithin from to rs (rows_within from to rs)
        → KeptWithin from to (r ∷ rs) (cond b (r ∷ rows_within from to rs) (rows_within from to rs))
    go true e h = taken e h
    go false e h = left e h

-- no other rows are kept
pub kept_only : (f : Entry → Bool) (rs ks ls : List Entry) → Kept f rs ks → Kept f rs ls → ks ≡ ls
kept_only f [] ks ls done done = refl
kept_only f (r ∷ rs) ks ls (taken e k) (taken g l) = ap (◌∷◌ r) (kept_only f rs _ _ k l)
kept_only f (r ∷ rs) ks ls (taken e k) (left g l) = absurd (false≢true (sym g ∙ e))
kept_only f (r ∷ rs) ks ls (left e k) (taken g l) = absurd (false≢true (sym e ∙ g))
kept_only f (r ∷ rs) ks ls (left e k) (left g l) = kept_only f rs ks ls k l

-- what a range comes to, described by its clocks
pub range_described : (from to : Clock) → length from.bytes ≡ 12 → length to.bytes ≡ 12 → good_range from to ≡ true
    → described true (selected range_selector (range_descriptor from to)) ≡ picking (dated from to)
unfolding described described_range
range_described from to f t g =
    let d = ranges_described from to f t in rw (d.is, d.first, d.last, g)

-- and what none comes to
pub whole_described : (belongs : Bool) → described belongs all ≡ picking whole
unfolding described
whole_described belongs = refl

-- a GET whose selection means a picking that gives these rows
pub picked_turned : (selective blocks : Bool) (i : ℕ) (s : Selection) (p : Picking) (rs : List Entry) (b : Body) → described selective s ≡ picking p → picked p b.store.rows ≡ these rs
    → turned (ask (profile_asked selective blocks i s)) b ≡ read_turn i (rows_result blocks p rs) b
unfolding turned attribute_read attribute_data same_bytes
picked_turned selective blocks i s p rs b e f = rw (e, f)

pub range_turned : (blocks : Bool) (i : ℕ) (from to : Clock) (b : Body) → length from.bytes ≡ 12 → length to.bytes ≡ 12 → good_range from to ≡ true
    → turned (ask (profile_request blocks i (selected range_selector (range_descriptor from to)))) b ≡ read_turn i (rows_result blocks (dated from to) (rows_within from to b.store.rows)) b
range_turned blocks i from to b f t g =
    picked_turned true blocks i (selected range_selector (range_descriptor from to)) (dated from to) (rows_within from to b.store.rows) b (range_described from to f t g) refl

pub range_reads : RangeReads
range_reads blocks i from to b f t g =
    record { rows = rows_within from to b.store.rows; kept = rows_kept from to b.store.rows; answer = range_turned blocks i from to b f t g }

none_within : (from to : Clock) (n : ℕ) (rs : List Entry) → every (λ n r. not (in_range from to r.clock)) n rs ≡ true → rows_within from to rs ≡ []
none_within from to n [] e = refl
none_within from to n (r ∷ rs) e =
    let h = both (not (in_range from to r.clock)) _ e in go (in_range from to r.clock) h.0 (none_within from to (suc n) rs h.1)
  where
    go : (b : Bool) → not b ≡ true → rows_within from to rs ≡ [] → cond b (r ∷ rows_within from to rs) (rows_within from to rs) ≡ []
    go true h ih = absurd (false≢true h)
    go false h ih = ih

all_within : (from to : Clock) (n : ℕ) (rs : List Entry) → every (λ n r. in_range from to r.clock) n rs ≡ true → rows_within from to rs ≡ rs
all_within from to n [] e = refl
all_within from to n (r ∷ rs) e = let h = both (in_range from to r.clock) _ e in rw h.0 (ap (◌∷◌ r) (all_within from to (suc n) rs h.1))

pub none_in_range : NoneInRange
unfolding rows_data length_field flat_map fitting
none_in_range blocks i from to b f t g e =
    range_turned blocks i from to b f t g
    ∙ ap (λ (rs : List Entry). read_turn i (rows_result blocks (dated from to) rs) b) (none_within from to 0 b.store.rows e)
    ∙ rw (data_room_lem)

-- a read of all rows
pub whole_turned : (blocks : Bool) (i : ℕ) (b : Body) → turned (ask (profile_request blocks i all)) b ≡ read_turn i (rows_result blocks whole b.store.rows) b
whole_turned blocks i b = picked_turned true blocks i all whole b.store.rows b (whole_described true) refl

-- the transfer that would begin has no part in an answer
same_rows : (blocks : Bool) (i : ℕ) (p q : Picking) (rs : List Entry) (b : Body) → SameAnswer (read_turn i (rows_result blocks p rs) b) (read_turn i (rows_result blocks q rs) b)
unfolding fitting
same_rows blocks i p q rs b = go (leb (length (rows_data rs)) (data_room longest_sent)) (blocks && true)
  where
    go : (x y : Bool)
        → SameAnswer (read_turn i (cond x (granted (rows_data rs)) (cond y (begun (running (profile p) 1) (rows_data rs)) (denied 250))) b)
        (read_turn i (cond x (granted (rows_data rs)) (cond y (begun (running (profile q) 1) (rows_data rs)) (denied 250))) b)
    go true y = record { refusal = refl; bytes = refl }
    go false true = record { refusal = refl; bytes = refl }
    go false false = record { refusal = refl; bytes = refl }

pub all_in_range : AllInRange
all_in_range blocks i from to b f t g e =
    rw (range_turned blocks i from to b f t g, all_within from to 0 b.store.rows e, whole_turned blocks i b)
    (same_rows blocks i (dated from to) whole b.store.rows b)

-- Two rows.

-- a row that passes is kept, and behind it what is kept of the rows behind it
record OneOf (f : Entry → Bool) (s : Entry) (ys ks : List Entry) : Type 0 where
  front : List Entry
  rest : List Entry
  is : ks ≡ front ++ s ∷ rest
  kept : Kept f ys rest

module _ (f : Entry → Bool) (s : Entry) (h : f s ≡ true) where
  one_kept : (xs ys ks : List Entry) → Kept f (xs ++ s ∷ ys) ks → OneOf f s ys ks
  one_kept [] ys ks (taken {ks = rest} e k) = record { front = []; rest = rest; is = refl; kept = k }
  one_kept [] ys ks (left e k) = absurd (false≢true (sym e ∙ h))
  one_kept (x ∷ xs) ys ks (taken {ks = rest} e k) =
      let o = one_kept xs ys rest k in record { front = x ∷ o.front; rest = o.rest; is = ap (◌∷◌ x) o.is; kept = o.kept }
  one_kept (x ∷ xs) ys ks (left e k) = one_kept xs ys ks k

pub both_kept : BothKept
both_kept from to r s rs ks k t h j =
    let f : Entry → Bool = λ e. in_range from to e.clock in
    let a = one_kept f r h t.before (t.between ++ s ∷ t.after) ks (rw t.are at k) in
    let b = one_kept f s j t.between t.after a.rest a.kept in
    record { before = a.front; between = b.front; after = b.rest; are = a.is ∙ ap (λ (l : List Entry). a.front ++ r ∷ l) b.is }

-- Refusals.

pub other_shape : OtherShape
unfolding turned attribute_read described same_bytes
other_shape blocks i v b e = rw e

pub bad_range_lem : BadRange
unfolding turned attribute_read described described_range same_bytes
bad_range_lem blocks i v b e g = rw (e, g)

pub other_selector : OtherSelector
unfolding turned attribute_read described same_bytes
other_selector blocks i k v b e g = rw (e, g)

pub not_agreed : NotAgreed
unfolding turned attribute_read described same_bytes
not_agreed blocks i k v b = refl
