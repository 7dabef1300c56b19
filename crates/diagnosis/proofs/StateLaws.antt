-- What is lent and the state, test by test.
use mathlib.Core.Path.{◌≡◌, refl, sym, ap}
use mathlib.Core.Bool.{Bool, true, false, cond, not, ◌&&◌}
use mathlib.Core.List.{List, [], ◌∷◌, map}
use Prim.Native.Nat.{ℕ, zero, suc, ◌≤◌, ◌<◌}
use native.Mathlib.Omega.{arith}
use lib.Dec.{eqb, leb}
use lib.ListN.{length, length-map}
use borrow.Author.Tests.{le-leb, leb-true}
use Rattle.std.specs.Prelude.{Ok}
use Rattle.model.specs.declared.SoundnessTest.TheVariants.{RegisterList, ColumnList, PeriodPermitted, ClockValid, RowClocksValid, RowCount, RowCells}
use Rattle.model.specs.Limits.{max_rows}
use Rattle.model.specs.Names.{every}
use Rattle.model.specs.Clocks.{february_days, days_in, real_date, real_time, fixed_bytes, valid_clock}
use Rattle.model.specs.Periods.{permitted_period}
use Rattle.model.specs.State.{Entry}
use Rattle.model.specs.Soundness.{accepted_registers, accepted_columns}
use Rattle.model.specs.Honesty.{blank_entry}
use Rattle.store.specs.Held.{Rows}
use Rattle.store.specs.Lists.{registers_of, columns_of, entry_of, entries_of, held}
use Rattle.store.proofs.StoreLaws.{rows_counted, columns_counted, few_columns_lem}
use Rattle.picks.specs.Sizes.{Even}
use Rattle.body.specs.declared.BodyState.{BodyState}
use Rattle.body.specs.View.{body_of}
use Rattle.call_tests.specs.Finding.{Finding}
use Rattle.call_tests.specs.Road.{unsound, rows_finds, body_state_finds}
use Rattle.call_tests.proofs.TestLaws.{passes_never}

-- a list with blanks behind it fails what a blank fails
blanks_fail : (f : ℕ → Entry → Bool) → ((i : ℕ) → f i blank_entry ≡ false) → (n i : ℕ) (xs : List Entry) → length xs < n → every f i (held blank_entry n xs) ≡ false
blanks_fail f e zero i xs h = absurd (omega arith)
blanks_fail f e (suc n) i [] h = ap (λ (b : Bool). b && every f (suc i) (held blank_entry n [])) (e i)
blanks_fail f e (suc n) i (x ∷ xs) h = go (f i x) (blanks_fail f e n (suc i) xs (omega arith))
  where
    go : (b : Bool) → every f (suc i) (held blank_entry n xs) ≡ false → b && every f (suc i) (held blank_entry n xs) ≡ false
    go true q = q
    go false q = refl

-- "at most 15 rows": where more are counted, the array has no clock for the last
pub rows_blank : (s : Rows) → length s.items ≡ 15 → 15 < s.count → every (λ i e. valid_clock e.clock) 0 (entries_of s) ≡ false
unfolding entries_of valid_clock real_date real_time fixed_bytes days_in february_days
rows_blank s full many =
    let a = length-map s.items entry_of in
    blanks_fail (λ i e. valid_clock e.clock) (λ i. refl) s.count 0 (map entry_of s.items) (omega arith)

pub rows_few : (s : Rows) → s.count ≤ 15 → leb (length (entries_of s)) max_rows ≡ true
unfolding max_rows
rows_few s h = rw (rows_counted s) (le-leb s.count 15 h)

-- a body that passes its tests has a cell for each column in every row, and no more of either than there is room for
pub body_even : (b : BodyState) → body_state_finds (body_of b) ≡ Ok tt → Even b.rows b.columns.count
unfolding body_state_finds rows_finds body_of max_rows
body_even b =
    go (accepted_registers (registers_of b.registers)) (accepted_columns (registers_of b.registers) (columns_of b.columns)) (permitted_period b.period) (valid_clock b.clock)
    (every (λ i r. valid_clock r.clock) 0 (entries_of b.rows)) (leb (length (entries_of b.rows)) 15) (every (λ i r. eqb (length r.cells) (length (columns_of b.columns))) 0 (entries_of b.rows))
    refl refl refl
  where
    go : (x1 x2 x3 x4 x5 x6 x7 : Bool) → accepted_columns (registers_of b.registers) (columns_of b.columns) ≡ x2 → leb (length (entries_of b.rows)) 15 ≡ x6
        → every (λ i r. eqb (length r.cells) (length (columns_of b.columns))) 0 (entries_of b.rows) ≡ x7
        → ◌≡◌ {A = Finding} (cond (not x1) (unsound RegisterList) (cond (not x2) (unsound ColumnList) (cond (not x3) (unsound PeriodPermitted) (cond (not x4) (unsound ClockValid) (cond (not x5) (unsound RowClocksValid) (cond (not x6) (unsound RowCount) (cond (not x7) (unsound RowCells) (Ok tt)))))))) (Ok tt)
        → Even b.rows b.columns.count
    go false x2 x3 x4 x5 x6 x7 a r c e = absurd (passes_never (sym e))
    go true false x3 x4 x5 x6 x7 a r c e = absurd (passes_never (sym e))
    go true true false x4 x5 x6 x7 a r c e = absurd (passes_never (sym e))
    go true true true false x5 x6 x7 a r c e = absurd (passes_never (sym e))
    go true true true true false x6 x7 a r c e = absurd (passes_never (sym e))
    go true true true true true false x7 a r c e = absurd (passes_never (sym e))
    go true true true true true true false a r c e = absurd (passes_never (sym e))
    go true true true true true true true a r c e =
        record { few = rw (rows_counted b.rows) at (leb-true (length (entries_of b.rows)) 15 r); narrow = few_columns_lem b.registers b.columns a; cells = rw (columns_counted b.columns) at c }
