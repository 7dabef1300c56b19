-- From the data that were chosen to what a request comes to: granted where they fit, else in blocks, or code 250.
use mathlib.Core.Path.{◌≡◌, refl, sym, ap, ◌∙◌}
use mathlib.Core.Bool.{Bool, true, false, cond, ◌&&◌, false≢true}
use mathlib.Core.List.{List, []}
use Prim.Native.Nat.{ℕ, ◌≤◌, ◌<◌}
use native.Mathlib.Omega.{arith}
use lib.ListN.{length}
use lib.Dec.{eqb}
use borrow.Author.Tests.{le-leb, lt-leb, ne_eqb, eqb-true}
use Rattle.std.specs.Prelude.{Option, Some, None, Result, Ok, Err, ok_or}
use Rattle.model.specs.declared.Denial.{Denial}
use Rattle.model.specs.declared.Denial.TheVariants.{NameUnknown, AnswerTooLong}
use Rattle.model.specs.declared.Name.{Name}
use Rattle.model.specs.Selecting.{Picking, Described, picking, faulty}
use Rattle.model.specs.State.{Entry, profile, Transfer, idle, running, runs, Body}
use Rattle.model.specs.Objects.{Result as ModelResult, granted, begun, denied, name_data, rows_data, attribute_data, these, wrong, picked_by, begins, fitting, shown}
use Rattle.model.proofs.LimitFacts.{data_room_lem}
use Rattle.objects.specs.declared.Served.{Served}
use Rattle.objects.specs.declared.Shown.{Shown}
use Rattle.objects.specs.declared.Shown.TheVariants.{Of, Rows, RecordNumber, Register}
use Rattle.objects.specs.Meanings.{shown_as}
use Rattle.store.specs.Lists.{entries_of}
use Rattle.body.specs.declared.BodyState.{BodyState}
use Rattle.body.specs.View.{body_of}
use Rattle.results.specs.declared.Data.{Data}
use Rattle.results.specs.declared.Outcome.{Outcome}
use Rattle.results.specs.declared.Outcome.TheVariants.{Granted, Begun}
use Rattle.results.specs.Results.{Shows, Comes, data_as}
use Rattle.picks.specs.Marks.{marked}

module _ (blocks : Bool) (t : Transfer) (d : List ℕ) where
  data_fits : length d ≤ 740 → fitting blocks t d ≡ granted d
  unfolding fitting
  data_fits h = rw (data_room_lem, le-leb (length d) 740 h)

  data_long : 740 < length d → fitting blocks t d ≡ cond (blocks && runs t) (begun t d) (denied 250)
  unfolding fitting
  data_long h = rw (data_room_lem, lt-leb (length d) 740 h)

abbrev shown_data : Shown → Name → ℕ → Body → ℕ → List ℕ
shown_data x n a b which = attribute_data (shown_as n x) n a (marked which b.store.rows) b

-- a name that means nothing
pub not_found : {found : Option Served} {e : Denial} → Err e ≡ ok_or found NameUnknown → (found ≡ None) × (e ≡ NameUnknown)
not_found {found} {e} q = go found q
  where
    go : (o : Option Served) → Err e ≡ ok_or o NameUnknown → (o ≡ None) × (e ≡ NameUnknown)
    go None k = (refl, cc)
    go (Some x) k = absurd cc

these_never : {rs : List Entry} {c : ℕ} → these rs ≡ wrong c → ⊥
these_never q = cc

-- rows were picked, so that the selection asked for some
picking_of_lem : (d : Described) (rs ts : List Entry) → these ts ≡ picked_by d rs → (p : Picking) × (d ≡ picking p)
picking_of_lem (picking p) rs ts e = (p, refl)
picking_of_lem (faulty c) rs ts e = absurd (these_never e)

-- only rows go out in blocks, and these are the rows that were picked
rows_begin : (x : Shown) (n : Name) (a : ℕ) (b : Body) (which : ℕ) (p : Picking) → runs (begins (shown_as n x) a (picking p)) ≡ true
    → rows_data (marked which b.store.rows) ≡ shown_data x n a b which
unfolding attribute_data
rows_begin (Of y) n a b which p e = absurd (false≢true e)
rows_begin Rows n a b which p e = go (eqb a 2) refl e
  where
    go : (two : Bool) → eqb a 2 ≡ two → runs (cond two (running (profile p) 1) idle) ≡ true
        → rows_data (marked which b.store.rows) ≡ cond (eqb a 1) (name_data n) (cond (eqb a 2) (rows_data (marked which b.store.rows)) [])
    go true f r = let z = eqb-true a 2 f in rw z
    go false f r = absurd (false≢true r)
rows_begin RecordNumber n a b which p e = absurd (false≢true e)
rows_begin (Register r) n a b which p e = absurd (false≢true e)

-- data with the rows that were picked: too long for one frame, or such as fit
module _ (x : Shown) (n : Name) (a : ℕ) (s : BodyState) (which : ℕ) (blocks : Bool) (d : Described) where
  abbrev shown_by : ModelResult
  shown_by = shown blocks (begins (shown_as n x) a d) (shown_as n x) n a (body_of s) (these (marked which (entries_of s.rows)))

  pub shown_long : (o : Result Outcome Denial) → 740 < length (shown_data x n a (body_of s) which)
      → ((m : Name) (p : Picking) → o ≡ cond (blocks && runs (begins (shown_as m x) a (picking p))) (Ok (Begun which)) (Err AnswerTooLong))
      → these (marked which (entries_of s.rows)) ≡ picked_by d (entries_of s.rows) → Comes n (body_of s) shown_by o
  unfolding body_of
  shown_long o k r q =
      let y = picking_of_lem d (entries_of s.rows) _ q in
      rw (data_long blocks (begins (shown_as n x) a d) (shown_data x n a (body_of s) which) k, y.1, r n y.0) (go y.0 blocks (runs (begins (shown_as n x) a (picking y.0))) refl)
    where
      go : (p : Picking) (u v : Bool) → runs (begins (shown_as n x) a (picking p)) ≡ v
          → Comes n (body_of s) (cond (u && v) (begun (begins (shown_as n x) a (picking p)) (shown_data x n a (body_of s) which)) (denied 250)) (cond (u && v) (Ok (Begun which)) (Err AnswerTooLong))
      go p true true f = record { starts = begins (shown_as n x) a (picking p); means = ap (begun (begins (shown_as n x) a (picking p))) (rows_begin x n a (body_of s) which p f); writable = tt }
      go p true false f = record { starts = idle; means = refl; writable = tt }
      go p false v f = record { starts = idle; means = refl; writable = tt }

  pub shown_fits : (chosen : Data) → Shows x a which chosen → length (data_as n (body_of s) chosen) ≤ 740 → Comes n (body_of s) shown_by (Ok (Granted chosen))
  unfolding body_of
  shown_fits chosen h j =
      let e = h n (body_of s) in
      let k : length (shown_data x n a (body_of s) which) ≤ 740 = omega (arith, ap length e) in
      record { starts = idle; means = ap granted e ∙ sym (data_fits blocks (begins (shown_as n x) a d) (shown_data x n a (body_of s) which) k); writable = rw data_room_lem j }

-- attributes other than 1 and 2 show the scaler, as attribute 3 does
pub shows_other : (x : Shown) (a which : ℕ) (d : Data) → (a ≡ 1 → ⊥) → (a ≡ 2 → ⊥) → Shows x 3 which d → Shows x a which d
unfolding attribute_data
shows_other x a which d h k p = λ n b. rw (ne_eqb a 1 h, ne_eqb a 2 k) (p n b)
