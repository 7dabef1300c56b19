-- Lists of records: when bytes are one, and what an array begins with. Over any part, by how many bytes it takes.
use mathlib.Core.Path.{◌≡◌, sym, subst, ap, ◌∙◌}
use mathlib.Core.Bool.{Bool, true, false, and-true}
use mathlib.Core.List.{List}
use Prim.Native.Nat.{ℕ, min, ◌+◌, ◌*◌, ◌/◌, ◌%◌, ◌≤◌, ◌<◌}
use native.Mathlib.Nat.{min-eq_left, div-mul-le_self}
use native.Mathlib.Omega.{arith}
use lib.Dec.{eqb}
use lib.ListN.{length, take}
use borrow.Author.Tests.{eq-eqb, ne_eqb}
use Rattle.wire.proofs.ReadingLaws.{by_order}
use Rattle.image.specs.Codec.{Codec, values, all_taken}
use Rattle.image.specs.Lists.{whole_list, list_in, Firsts, Begins}
use Rattle.image.proofs.LoopLaws.{length_values, all_taken_lem}

module _ {A : Type 0} (c : Codec A) {z : ℕ} (q : c.size ≡ z) (s : List ℕ) where
  same_rest : length s % c.size ≡ length s % z
  same_rest = ap (λ (n : ℕ). length s % n) q

  same_count : length s / c.size ≡ length s / z
  same_count = ap (λ (n : ℕ). length s / n) q

  -- the records that are counted stand within the bytes
  pub counted_room : 0 + (length s / z) * c.size ≤ length s
  counted_room = omega (arith, ap (λ (n : ℕ). (length s / n) * c.size) q, div-mul-le_self (length s) c.size)

  pub not_whole : (length s % z ≡ 0 → ⊥) → false ≡ whole_list c s
  unfolding whole_list
  not_whole h = rw (ne_eqb (length s % c.size) 0 (λ e. h (sym same_rest ∙ e)))

  pub whole_by : {r : Bool} → length s % z ≡ 0 → r ≡ all_taken c (length s / z) s → r ≡ whole_list c s
  unfolding whole_list
  whole_by h e = rw (eq-eqb (length s % c.size) 0 (same_rest ∙ h)) (e ∙ ap (λ (n : ℕ). all_taken c n s) (sym same_count))

  -- where every record is taken, the length decides
  pub whole_always : {r : Bool} → ((t : List ℕ) → c.taken t ≡ true) → r ≡ eqb (length s % z) 0 → r ≡ whole_list c s
  unfolding whole_list
  whole_always h e =
      rw (all_taken_lem c h (length s / c.size) s, and-true (eqb (length s % c.size) 0)) (e ∙ ap (λ (n : ℕ). eqb n 0) (sym same_rest))

  module _ {places : ℕ} {xs : List A} where
    pub begins_with_lem : Firsts c places (length s / z) s 0 xs → Begins c places s xs
    unfolding list_in
    begins_with_lem f =
        record { full = f.full; are = λ h. ap (λ (n : ℕ). take n xs) same_count ∙ f.are ∙ ap (λ (n : ℕ). values c n s) (sym same_count) }

    pub begins_cut : {n at : ℕ} → places < length s / z → Firsts c places n s at xs → Begins c places s xs
    begins_cut h f = record { full = f.full; are = λ k. absurd (omega (arith, same_count)) }

    -- as many as find room
    pub begins_by : {m w : ℕ} → w ≡ z → m ≡ min (length s / w) places → Firsts c places m s 0 xs → Begins c places s xs
    begins_by {m} v e f =
        let k : m ≡ min (length s / z) places = e ∙ ap (λ (n : ℕ). min (length s / n) places) v in
        by_order (length s / z) places
        (λ h. begins_with_lem (subst (λ (n : ℕ). Firsts c places n s 0 xs) (k ∙ min-eq_left h) f))
        (λ h. begins_cut h f)

-- as many records as are counted
pub length_list : {A : Type 0} (c : Codec A) {z : ℕ} → c.size ≡ z → (s : List ℕ) → length (list_in c s) ≡ length s / z
unfolding list_in
length_list c q s = length_values c (length s / c.size) s ∙ ap (λ (n : ℕ). length s / n) q

-- the records that an array begins with
pub begun : {A : Type 0} (c : Codec A) {z : ℕ} → c.size ≡ z → (s : List ℕ) {places : ℕ} {xs : List A} → Begins c places s xs → length s / z ≤ places → take (length s / z) xs ≡ list_in c s
begun c q s {xs = xs} b h =
    let e = ap (λ (n : ℕ). length s / n) q in
    ap (λ (n : ℕ). take n xs) (sym e) ∙ b.are (omega (arith, e))
