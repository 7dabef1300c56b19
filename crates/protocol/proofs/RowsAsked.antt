-- H's GET of the profile with any selection that means rows (`get_rows` of specs/InBlocks): it is read, for its value is whole, and it is the
-- model's request. A value that means rows is the descriptor of a range or one of entries, which the reader is run on byte by byte.
use mathlib.Core.Path.{◌≡◌, refl, sym, ap, subst}
use mathlib.Core.Bool.{Bool, true, false, ◌&&◌, false≢true}
use mathlib.Core.List.{List, [], ◌∷◌}
use Prim.Native.Nat.{ℕ, zero, suc}
use native.Mathlib.Omega.{arith}
use lib.Dec.{eqb}
use lib.ListN.{length, length-take, length-drop}
use borrow.Author.Tests.{eqb-true}
use Rattle.std.specs.Prelude.{Option, Some, None}
use Rattle.wire.specs.Reading.{same_bytes, skipped, expected, number_at, length_at}
use Rattle.wire.proofs.ReadingLaws.{fill_here}
use Rattle.axdr.specs.Values.{greatest_depth, layout_of, elements_end, value_within, value_end}
use Rattle.model.specs.declared.Client.TheVariants.{Ciphering}
use Rattle.model.specs.declared.CipherClient.TheVariants.{Han}
use Rattle.model.specs.declared.Clock.{Clock}
use Rattle.model.specs.Selecting.{Selection, all, selected, Picking, Described, picking, faulty, range_selector, entry_selector, range_descriptor, is_range_descriptor, is_entry_descriptor, from_clock, to_clock, described}
use Rattle.model.specs.ByDate.{profile_asked}
use Rattle.model.proofs.ListLaws.{both, by_test}
use Rattle.model.proofs.ByDate.{no_other_range}
use Rattle.cosem.specs.declared.Wanted.{Wanted}
use Rattle.cosem.specs.declared.Wanted.TheVariants.{Read, ReadSelected}
use Rattle.cosem.specs.declared.Asked.{Asked}
use Rattle.cosem.specs.declared.Reading.TheVariants.{Asks}
use Rattle.cosem.specs.declared.ServiceKind.TheVariants.{Get}
use Rattle.cosem.specs.Requests.{optional_part, last_value, read_get, read_gets, read_service, name_in, requested}
use Rattle.cosem.proofs.ShapeLaws.{descriptor_size}
use Rattle.protocol.specs.InBlocks.{get_rows}
use Rattle.protocol.proofs.Enclosed.{profile_asked_lem}

-- Lists of a known length.

-- what holds of every list of n numbers, number by number
abbrev EachOf : ℕ → (List ℕ → Type 0) → Type 0
EachOf zero P = P []
EachOf (suc n) P = (x : ℕ) → EachOf n (λ xs. P (x ∷ xs))

of_long : (n : ℕ) (P : List ℕ → Type 0) → EachOf n P → (xs : List ℕ) → length xs ≡ n → P xs
of_long zero P h [] e = h
of_long zero P h (x ∷ xs) e = absurd (omega arith)
of_long (suc n) P h [] e = absurd (omega arith)
of_long (suc n) P h (x ∷ xs) e = of_long n (λ ys. P (x ∷ ys)) (h x) xs (omega arith)

-- what holds of every two clocks of twelve bytes, byte by byte
of_clocks_lem : (P : Clock → Clock → Type 0) → EachOf 12 (λ fs. EachOf 12 (λ ts. P (record { bytes = fs }) (record { bytes = ts })))
    → (from to : Clock) → length from.bytes ≡ 12 → length to.bytes ≡ 12 → P from to
of_clocks_lem P h from to f t =
    of_long 12 (λ ts. P from (record { bytes = ts })) (of_long 12 (λ fs. EachOf 12 (λ ts. P (record { bytes = fs }) (record { bytes = ts }))) h from.bytes f) to.bytes t

-- The request is read.

abbrev wanted_by : Selection → Wanted
wanted_by all = Read 2
wanted_by (selected k v) = ReadSelected 2 k 14

abbrev pub rows_asked : (invoke : ℕ) → Selection → Asked
rows_asked invoke s = record { invoke = invoke; class = 7; wanted = wanted_by s }

module _ (invoke k : ℕ) where
  -- with this value
  abbrev IsRead : List ℕ → Type 0
  IsRead v = read_service Get (get_rows invoke (selected k v)) ≡ Some (Asks (rows_asked invoke (selected k v)))

  clocks_asked : (from to : Clock) → length from.bytes ≡ 12 → length to.bytes ≡ 12 → IsRead (range_descriptor from to)
  unfolding range_descriptor read_gets read_get optional_part last_value expected skipped number_at length_at same_bytes greatest_depth layout_of elements_end value_within value_end
  clocks_asked = of_clocks_lem (λ from to. IsRead (range_descriptor from to)) (λ a b c d e f g h i j k l m n o p q r s t u v w x. refl)

  range_asked : (v : List ℕ) → is_range_descriptor v ≡ true → IsRead v
  range_asked v e =
      let d = no_other_range v e in
      let n = d.0 in
      subst IsRead (sym d.1) (clocks_asked (from_clock v) (to_clock v) (simp (length-take, length-drop) (omega arith)) (simp (length-take, length-drop) (omega arith)))

  entries_asked : (v : List ℕ) → is_entry_descriptor v ≡ true → IsRead v
  unfolding is_entry_descriptor read_gets read_get optional_part last_value expected skipped number_at length_at same_bytes greatest_depth layout_of elements_end value_within value_end
  entries_asked v e =
      of_long 18 (λ xs. is_entry_descriptor xs ≡ true → IsRead xs)
      (λ a b c d e f g h i j k l m n o p q r z.
      let z5 = both _ (eqb p 0x12) z in
      let z4 = both _ (eqb m 0x12) z5.0 in
      let z3 = both _ (eqb h 0x06) z4.0 in
      let z2 = both _ (eqb c 0x06) z3.0 in
      let z1 = both (eqb a 0x02) (eqb b 0x04) z2.0 in
      rw (eqb-true a 0x02 z1.0, eqb-true b 0x04 z1.1, eqb-true c 0x06 z2.1, eqb-true h 0x06 z3.1, eqb-true m 0x12 z4.1, eqb-true p 0x12 z5.1))
      v (descriptor_size v e) e

abbrev is_picking : Described → Bool
is_picking (picking p) = true
is_picking (faulty c) = false

pub rows_asked_lem : (invoke : ℕ) (belongs : Bool) (s : Selection) (p : Picking) → described belongs s ≡ picking p → read_service Get (get_rows invoke s) ≡ Some (Asks (rows_asked invoke s))
unfolding described
rows_asked_lem invoke belongs all p e = profile_asked_lem invoke
rows_asked_lem invoke belongs (selected k v) p e =
    by_test Asked (belongs && eqb k range_selector && is_range_descriptor v) (λ a _. range_asked invoke k v (both (belongs && eqb k range_selector) (is_range_descriptor v) a).1)
    (λ _. by_test Asked (belongs && eqb k entry_selector && is_entry_descriptor v) (λ a _. entries_asked invoke k v (both (belongs && eqb k entry_selector) (is_entry_descriptor v) a).1) (λ _ f. absurd (false≢true (ap is_picking f)))) e
  where
    Asked : Described → Type 0
    Asked d = d ≡ picking p → IsRead invoke k v

-- It is the model's.

pub rows_requested : (selective blocks : Bool) (invoke : ℕ) (s : Selection)
    → requested (Ciphering Han) selective blocks (get_rows invoke s) (rows_asked invoke s) ≡ profile_asked selective blocks invoke s
unfolding requested name_in
rows_requested selective blocks invoke all = rw (fill_here (get_rows invoke all) 5 (0 ∷ 0 ∷ 0 ∷ 0 ∷ 0 ∷ 0 ∷ []) (omega arith))
rows_requested selective blocks invoke (selected k v) = rw (fill_here (get_rows invoke (selected k v)) 5 (0 ∷ 0 ∷ 0 ∷ 0 ∷ 0 ∷ 0 ∷ []) (omega arith))
