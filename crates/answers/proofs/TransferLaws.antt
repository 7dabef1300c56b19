-- The rows of a transfer: how long their data can be, and what a sound body says of the transfer that runs in it.
use mathlib.Core.Path.{◌≡◌, refl, sym, ap, subst, ◌∙◌}
use mathlib.Core.Bool.{Bool, true, false, cond, not, ◌&&◌, false≢true}
use mathlib.Core.List.{List}
use Prim.Native.Nat.{ℕ, ◌*◌, ◌≤◌, ◌<◌}
use native.Mathlib.Omega.{arith}
use lib.Dec.{eqb, leb}
use lib.ListN.{length, take, get_or}
use Rattle.wire.specs.Wrote.{Wrote}
use Rattle.wire_write.proofs.WroteLaws.{there}
use Rattle.model.specs.Limits.{longest_sent, data_room, block_room}
use Rattle.model.specs.Selecting.{Selection, Picking, Described, picking, faulty, described}
use Rattle.model.specs.State.{Entry, Store, profile, Transfer, idle, running, runs, Body}
use Rattle.model.specs.Objects.{Content, simple, rows, record_number, register, Meaning, known, unknown, serves, Request, Result, granted, begun, denied, attribute_data, Picked, these, wrong, picked, picked_by, takes_selector, begins, fitting, shown, attribute_read, picked_rows, rows_data, long_data}
use Rattle.model.specs.Soundness.{rows_allow}
use Rattle.model.proofs.LimitFacts.{block_room_lem}
use Rattle.model.proofs.ListLaws.{both, by_test}
use Rattle.model.proofs.TransferLaws.{going}
use Rattle.store.specs.Held.{Rows}
use Rattle.store.specs.Lists.{entries_of}
use Rattle.store.proofs.Blank.{blank_row}
use Rattle.picks.specs.Marks.{marked, mark_count}
use Rattle.picks.specs.Sizes.{Even}
use Rattle.picks.specs.Transfers.{picked_of}
use Rattle.picks.proofs.MarkLaws.{count_most}
use Rattle.picks.proofs.SizeLaws.{length_picked, product_small}

-- no more than 1487 bytes
pub rows_most : (s : Rows) (c : ℕ) → Even s c → length s.items ≡ 15 → ((i : ℕ) → i < length s.items → length (get_or s.items i blank_row).clock.bytes ≡ 12)
    → (which : ℕ) → length (rows_data (marked which (entries_of s))) ≤ 1487
rows_most s c even full clocks which =
    let n = count_most which s.count in
    omega (arith, length_picked s c even full clocks which, product_small (mark_count which s.count) c (omega (arith, n, even.few)) even.narrow)

-- what was written from the first byte on is what stands before the place after it
pub written_part : {l m bs : List ℕ} {r : ℕ} → Wrote l 0 m r bs → take r m ≡ bs
written_part {m = m} {bs = bs} {r = r} w =
    let n : r ≡ length bs = omega (arith, w.next) in
    ap (λ (j : ℕ). take j m) n ∙ there w

-- The rows that the code picked anew are those of the transfer: their data go on after block k, which is a small number.
module _ (s : Store) (r : Rows) (p : Picking) (k which : ℕ) (e : s.rows ≡ entries_of r) (g : rows_allow s (running (profile p) k) ≡ true) (w : marked which (entries_of r) ≡ picked_rows (picked_of p (entries_of r))) where
  pub long_data_lem : rows_data (marked which (entries_of r)) ≡ long_data (profile p) s
  long_data_lem =
      let good : picked_of p s.rows ≡ picked p s.rows = rw (going s (profile p) k g).granted refl in
      ap rows_data (w ∙ ap (λ (rs : List Entry). picked_rows (picked_of p rs)) (sym e) ∙ ap picked_rows good)

  pub more_comes_lem : block_room longest_sent * k < length (rows_data (marked which (entries_of r)))
  more_comes_lem = rw long_data_lem (going s (profile p) k g).more

  pub few_blocks : length (rows_data (marked which (entries_of r))) ≤ 1487 → k ≤ 2
  few_blocks h = let m = rw block_room_lem at more_comes_lem in omega (arith, m)

-- A read that begins a transfer: its selection was good, and the transfer is of what it asked for.
pub record Starts (s : Selection) (t : Transfer) : Type 0 where
  pub belongs : Bool
  pub asked : Picking
  pub is : described belongs s ≡ picking asked
  pub runs : t ≡ running (profile asked) 1

module _ (s : Selection) where
  abbrev StartsBy : Result → Type 0
  StartsBy (granted d) = Unit {0}
  StartsBy (begun t d) = Starts s t
  StartsBy (denied c) = Unit {0}

  begins_by : (x : Content) (a : ℕ) (belongs blocks : Bool) (p : Picking) → described belongs s ≡ picking p → blocks && runs (begins x a (picking p)) ≡ true → Starts s (begins x a (picking p))
  begins_by (simple y) a belongs blocks p e f = absurd (false≢true (both blocks false f).1)
  begins_by rows a belongs blocks p e f = go (eqb a 2) (both blocks _ f).1
    where
      go : (two : Bool) → runs (cond two (running (profile p) 1) idle) ≡ true → Starts s (cond two (running (profile p) 1) idle)
      go true g = record { belongs = belongs; asked = p; is = e; runs = refl }
      go false g = absurd (false≢true g)
  begins_by record_number a belongs blocks p e f = absurd (false≢true (both blocks false f).1)
  begins_by (register r) a belongs blocks p e f = absurd (false≢true (both blocks false f).1)

  fitting_by : (x : Content) (a : ℕ) (belongs blocks : Bool) (p : Picking) (d : List ℕ) → described belongs s ≡ picking p → StartsBy (fitting blocks (begins x a (picking p)) d)
  unfolding fitting
  fitting_by x a belongs blocks p d e =
      by_test StartsBy (leb (length d) (data_room longest_sent)) (λ _. tt) λ _.
      by_test StartsBy (blocks && runs (begins x a (picking p))) (begins_by x a belongs blocks p e) (λ _. tt)

  shown_by_lem : (q : Request) (x : Content) (a : ℕ) (b : Body) (belongs : Bool) (d : Described) → described belongs s ≡ d
      → StartsBy (shown q.blocks (begins x a d) x q.name a b (picked_by d b.store.rows))
  shown_by_lem q x a b belongs (faulty c) e = tt
  shown_by_lem q x a b belongs (picking p) e = go (picked p b.store.rows)
    where
      go : (w : Picked) → StartsBy (shown q.blocks (begins x a (picking p)) x q.name a b w)
      go (these rs) = fitting_by x a belongs q.blocks p (attribute_data x q.name a rs b) e
      go (wrong c) = tt

  read_by : (q : Request) (a : ℕ) (b : Body) (w : Meaning) → StartsBy (attribute_read q a s b w)
  unfolding attribute_read
  read_by q a b unknown = tt
  read_by q a b (known o) =
      by_test StartsBy (not (eqb q.class o.class)) (λ _. tt) λ _.
      by_test StartsBy (not (serves o.attributes a)) (λ _. tt) λ _.
      shown_by_lem q o.content a b (takes_selector o.content a && q.selective) (described (takes_selector o.content a && q.selective) s) refl

  pub begun_by : (q : Request) (a : ℕ) (b : Body) (w : Meaning) (t : Transfer) (d : List ℕ) → begun t d ≡ attribute_read q a s b w → Starts s t
  begun_by q a b w t d e = subst StartsBy (sym e) (read_by q a b w)
