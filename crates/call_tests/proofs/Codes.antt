-- A request is denied by the code of the first test that it fails (specs/Claims, `CodesRight`).
use mathlib.Core.Path.{◌≡◌, refl, sym, ap, ◌∙◌}
use mathlib.Core.Bool.{Bool, true, false, cond, not, ◌&&◌}
use mathlib.Core.List.{List, [], map}
use Prim.Native.Nat.{ℕ}
use lib.Dec.{eqb, leb}
use lib.ListN.{length}
use Rattle.model.specs.Limits.{longest_sent, data_room}
use Rattle.model.specs.Selecting.{Selection, all, selected, range_selector, entry_selector, described_range, described_entries, described, is_range_descriptor, is_entry_descriptor, from_clock, to_clock, good_range, from_entry, to_entry, from_column, to_column, picking, faulty, numbered, dated}
use Rattle.model.specs.State.{Entry, Transfer, idle, running, ended, runs, Body}
use Rattle.model.specs.Objects.{Object, Meaning, known, unknown, meaning, serves, Service, get, action, Request, Parameter, Picked, these, wrong, picked_by, attribute_data, entries, entries_wrong, rows_between, last_entry, takes_selector, selected_rows, begins, fitting, shown, attribute_read, good_parameter, method_invoked, Result, granted, begun, denied, refused_turn, next_turn, continued, ask, go_on, turned}
use Rattle.model.specs.Blocks.{refused_by}
use Rattle.call_tests.specs.declared.BodyTest.{BodyTest}
use Rattle.call_tests.specs.declared.BodyTest.TheVariants.{EntriesWrong, RangeWrong, TransferEnded, NoTransfer, BlockNumber}
use Rattle.call_tests.specs.declared.CallTest.TheVariants.{Body as OfBody}
use Rattle.std.specs.Prelude.{Ok, Err}
use Rattle.call_tests.specs.Finding.{Finding}
use Rattle.call_tests.specs.Tests.{body_tests, first_failing}
use Rattle.call_tests.specs.Lines.{code_of}
use Rattle.call_tests.specs.Claims.{result_of, request_fails, CodesRight}
use Rattle.call_tests.specs.Road.{selector_wrong, code_test, result_finds, service_finds, body_finds, number_finds}
use Rattle.call_tests.proofs.TestLaws.{passes_never}
use Rattle.call_tests.proofs.Road.{body_road, number_road}

-- a code is that of the test which it is taken for; thirteen is the test of code 13
abbrev Coded : (thirteen : BodyTest) → Result → Type 0
Coded t (granted d) = Unit {0}
Coded t (begun x d) = Unit {0}
Coded t (denied c) = code_of (code_test t c) ≡ c

module _ (t : BodyTest) (thirteen : code_of t ≡ 13) where
  fitting_coded : (blocks : Bool) (x : Transfer) (d : List ℕ) → Coded t (fitting blocks x d)
  unfolding fitting code_test
  fitting_coded blocks x d = go (leb (length d) (data_room longest_sent)) (blocks && runs x)
    where
      go : (y z : Bool) → Coded t (cond y (granted d) (cond z (begun x d) (denied 250)))
      go true z = tt
      go false true = tt
      go false false = refl

  -- rows that were picked, or not, by code 12 or 13
  abbrev PickCoded : Picked → Type 0
  PickCoded (these rs) = Unit {0}
  PickCoded (wrong c) = code_of (code_test t c) ≡ c

  shown_coded : (o : Object) (q : Request) (attribute : ℕ) (x : Transfer) (b : Body) (p : Picked) → PickCoded p → Coded t (shown q.blocks x o.content q.name attribute b p)
  shown_coded o q attribute x b (these rs) e = fitting_coded q.blocks x (attribute_data o.content q.name attribute rs b)
  shown_coded o q attribute x b (wrong c) e = e

  range_coded : (v : List ℕ) (rs : List Entry) → PickCoded (picked_by (described_range (from_clock v) (to_clock v)) rs)
  unfolding described_range code_test
  range_coded v rs = go (good_range (from_clock v) (to_clock v))
    where
      go : (g : Bool) → PickCoded (picked_by (cond g (picking (dated (from_clock v) (to_clock v))) (faulty 13)) rs)
      go true = tt
      go false = thirteen

  numbered_coded : (w : Bool) (rs : List Entry) → PickCoded (cond w (wrong 13) (these rs))
  unfolding code_test
  numbered_coded true rs = thirteen
  numbered_coded false rs = tt

  entries_coded : (v : List ℕ) (rs : List Entry) → PickCoded (picked_by (described_entries v) rs)
  unfolding described_entries entries code_test
  entries_coded v rs = go (eqb (from_column v) 1 && eqb (to_column v) 0)
    where
      go : (g : Bool) → PickCoded (picked_by (cond g (picking (numbered (from_entry v) (to_entry v))) (faulty 13)) rs)
      go true = numbered_coded (entries_wrong (from_entry v) (to_entry v) (length rs)) (rows_between (from_entry v) (last_entry (to_entry v) (length rs)) rs)
      go false = thirteen

  picked_coded : (belongs : Bool) (s : Selection) (rs : List Entry) → PickCoded (selected_rows belongs s rs)
  unfolding described code_test
  picked_coded belongs all rs = tt
  picked_coded belongs (selected k v) rs = go (belongs && eqb k range_selector && is_range_descriptor v) (belongs && eqb k entry_selector && is_entry_descriptor v)
    where
      go : (x y : Bool) → PickCoded (picked_by (cond x (described_range (from_clock v) (to_clock v)) (cond y (described_entries v) (faulty 12))) rs)
      go true y = range_coded v rs
      go false true = entries_coded v rs
      go false false = refl

  read_coded : (q : Request) (attribute : ℕ) (s : Selection) (b : Body) (w : Meaning) → Coded t (attribute_read q attribute s b w)
  unfolding attribute_read code_test
  read_coded q attribute s b unknown = refl
  read_coded q attribute s b (known o) = go (eqb q.class o.class) (serves o.attributes attribute)
    where
      starts : Transfer
      starts = begins o.content attribute (described (takes_selector o.content attribute && q.selective) s)

      rows : Picked
      rows = selected_rows (takes_selector o.content attribute && q.selective) s b.store.rows

      go : (x y : Bool) → Coded t (cond (not x) (denied 9) (cond (not y) (denied 3) (shown q.blocks starts o.content q.name attribute b rows)))
      go false y = refl
      go true false = refl
      go true true = shown_coded o q attribute starts b rows (picked_coded (takes_selector o.content attribute && q.selective) s b.store.rows)

  invoked_coded : (q : Request) (method : ℕ) (v : Parameter) (w : Meaning) → Coded t (method_invoked q method v w)
  unfolding method_invoked code_test
  invoked_coded q method v unknown = refl
  invoked_coded q method v (known o) = go (eqb q.class o.class) (serves o.methods method) (good_parameter v)
    where
      go : (x y z : Bool) → Coded t (cond (not x) (denied 9) (cond (not y) (denied 3) (cond z (granted []) (denied 12))))
      go false y z = refl
      go true false z = refl
      go true true false = refl
      go true true true = tt

selector_thirteen : (s : Selection) → code_of (selector_wrong s) ≡ 13
selector_thirteen all = refl
selector_thirteen (selected k v) = go (eqb k range_selector)
  where
    go : (x : Bool) → code_of (cond x RangeWrong EntriesWrong) ≡ 13
    go true = refl
    go false = refl

-- the code of what is found
by_code : (thirteen t : BodyTest) (r : Result) → Coded thirteen r → result_finds thirteen r ≡ Err (OfBody t) → r ≡ denied (code_of t)
by_code thirteen t (granted d) e q = absurd (passes_never q)
by_code thirteen t (begun x d) e q = absurd (passes_never q)
by_code thirteen t (denied c) e q = let same : code_test thirteen c ≡ t = cc in ap denied (sym e ∙ ap code_of same)

service_code : (q : Request) (b : Body) (w : Meaning) (v : Service) (t : BodyTest) → service_finds q b w v ≡ Err (OfBody t) → result_of q b w v ≡ denied (code_of t)
service_code q b w (get attribute s) t e =
    by_code (selector_wrong s) t (attribute_read q attribute s b w) (read_coded (selector_wrong s) (selector_thirteen s) q attribute s b w) e
service_code q b w (action method v) t e = by_code EntriesWrong t (method_invoked q method v w) (invoked_coded EntriesWrong refl q method v w) e

-- a numbered request: the code of what is found by its transfer
number_code : (i n : ℕ) (b : Body) (x : Transfer) (t : BodyTest) → number_finds n x ≡ Err (OfBody t) → continued i n b x ≡ refused_turn i n (code_of t) b
number_code i n b idle t e = let same : NoTransfer ≡ t = cc in ap (λ u. refused_turn i n (code_of u) b) same
number_code i n b ended t e = let same : TransferEnded ≡ t = cc in ap (λ u. refused_turn i n (code_of u) b) same
number_code i n b (running x k) t e = go (eqb n k) e
  where
    go : (y : Bool) → ◌≡◌ {A = Finding} (cond y (Ok tt) (Err (OfBody BlockNumber))) (Err (OfBody t)) → cond y (next_turn i x k b) (refused_turn i n 19 b) ≡ refused_turn i n (code_of t) b
    go true r = absurd (passes_never r)
    go false r = let same : BlockNumber ≡ t = cc in ap (λ u. refused_turn i n (code_of u) b) same

request_right : (q : Request) (b : Body) (t : BodyTest) → first_failing (request_fails (ask q) b) (map OfBody body_tests) ≡ Err (OfBody t)
    → result_of q b (meaning q.client q.name b.store.registers) q.service ≡ denied (code_of t)
unfolding first_failing body_finds
request_right q b t e = service_code q b (meaning q.client q.name b.store.registers) q.service t (sym (body_road q b) ∙ e)

numbered_right : (i n : ℕ) (b : Body) (t : BodyTest) → first_failing (request_fails (go_on i n) b) (map OfBody body_tests) ≡ Err (OfBody t) → turned (go_on i n) b ≡ refused_by (code_of t) i n b
unfolding first_failing turned
numbered_right i n b t e = number_code i n b b.transfer t (sym (number_road n b.transfer) ∙ e)

pub codes_right : CodesRight
codes_right = record { request = request_right; numbered = numbered_right }
