-- A sound state passes each test, and a state that passes each test is sound.
use mathlib.Core.Path.{◌≡◌, refl}
use mathlib.Core.Bool.{Bool, true}
use mathlib.Core.List.{List, [], ◌∷◌}
use Prim.Native.Nat.{ℕ, zero, suc, ◌<◌}
use native.Mathlib.Omega.{arith}
use lib.Dec.{lit<}
use lib.ListN.{length, get_or}
use Rattle.model.specs.Names.{every}
use Rattle.model.specs.State.{Model}
use Rattle.model.specs.declared.SoundnessTest.{SoundnessTest}
use Rattle.model.specs.declared.SoundnessTest.TheVariants.{RegisterList, ColumnList, PeriodPermitted, ClockValid, RowClocksValid, RowCount, RowCells, AssociationKind, AssociationOnLink, AgreedServices, TransferPossible}
use Rattle.model.specs.Soundness.{passes, soundness_tests, sound}
use Rattle.model.proofs.ListLaws.{both, both_true}

every_from_lem : {A : Type 0} {f : A → Bool} → ((x : A) → f x ≡ true) → (i : ℕ) (xs : List A) → every (λ j x. f x) i xs ≡ true
every_from_lem h i [] = refl
every_from_lem h i (x ∷ xs) = both_true (h x) (every_from_lem h (suc i) xs)

pub sound_from : (m : Model) → ((t : SoundnessTest) → passes t m ≡ true) → sound m ≡ true
unfolding sound
sound_from m h = every_from_lem h 0 soundness_tests

tested : {A : Type 0} (f : A → Bool) (d : A) (i : ℕ) (xs : List A) → every (λ j x. f x) i xs ≡ true → (k : ℕ) → k < length xs → f (get_or xs k d) ≡ true
tested f d i [] e k h = absurd (omega arith)
tested f d i (x ∷ xs) e zero h = (both (f x) _ e).0
tested f d i (x ∷ xs) e (suc k) h = tested f d (suc i) xs (both (f x) _ e).1 k (omega arith)

pub sound_passes : (m : Model) → sound m ≡ true → (t : SoundnessTest) → passes t m ≡ true
unfolding sound
sound_passes m h t = go t
  where
    at : (k : ℕ) → k < length soundness_tests → passes (get_or soundness_tests k RegisterList) m ≡ true
    at = tested (λ t. passes t m) RegisterList 0 soundness_tests h

    go : (t : SoundnessTest) → passes t m ≡ true
    go RegisterList = at 0 (lit< tt)
    go ColumnList = at 1 (lit< tt)
    go PeriodPermitted = at 2 (lit< tt)
    go ClockValid = at 3 (lit< tt)
    go RowClocksValid = at 4 (lit< tt)
    go RowCount = at 5 (lit< tt)
    go RowCells = at 6 (lit< tt)
    go AssociationKind = at 7 (lit< tt)
    go AssociationOnLink = at 8 (lit< tt)
    go AgreedServices = at 9 (lit< tt)
    go TransferPossible = at 10 (lit< tt)
