-- Each call of the static library has the numbers that specs/Numbers lists for it.
use mathlib.Core.Path.{◌≡◌, refl, ◌∙◌, ap}
use mathlib.Core.Bool.{Bool, true, false, cond, ◌||◌, false≢true}
use mathlib.Core.List.{List, [], ◌∷◌, ◌++◌}
use Prim.Native.Nat.{ℕ}
use lib.Dec.{eqb}
use lib.ListN.{length}
use borrow.Author.Tests.{eqb-true, eqb-false}
use Rattle.model.specs.Periods.{listed}
use Rattle.model.specs.State.{Model}
use Rattle.model.specs.Soundness.{sound}
use Rattle.model.specs.Calls.{Lent, lent_refusal, frame, owner, step}
use Rattle.model.specs.Archive.{numbers}
use Rattle.model.proofs.AllowedNumbers.{lent_allowed}
use Rattle.meter.specs.View.{view}
use Rattle.protocol.specs.Decide.{p2}
use Rattle.protocol.proofs.Claim.{p2_numbers_allowed}
use Rattle.std.specs.Prelude.{Ok, Err}
use Rattle.image.specs.declared.ImageFault.TheVariants.{WrongLength, WrongVersion, NoImage}
use Rattle.image.specs.Image.{Status, image_size, meter_of, status_of, image_refusal, wrong_length, wrong_version, not_sound}
use Rattle.image.specs.Layout.{name_part, register_part}
use Rattle.image.specs.Lists.{whole_list}
use Rattle.owner_calls.specs.Refusals.{wrong_argument, fault_of, sized, is_flag, fault_refusal, refusal_by, new_sized, new_refusal}
use Rattle.owner_calls.specs.Lending.{LentOwner, registers, value, columns, period, clock, p5, powered, fault, owner_of}
use Rattle.owner_calls.specs.Promises.{refusal_for}
use Rattle.capi.specs.Refusals.{frame_refusal}
use Rattle.capi.specs.Lending.{LentOn, receive, own, call_of, renew, call}
use Rattle.capi.specs.Runs.{renews, receives, owns}
use Rattle.capi.specs.Numbers.{flag_numbers, on_numbers, library_numbers, LibraryNumbers}

-- a number of the first of two lists
before : (n : ℕ) (xs ys : List ℕ) → listed n xs ≡ true → listed n (xs ++ ys) ≡ true
before n [] ys e = absurd (false≢true e)
before n (x ∷ xs) ys e = go (eqb x n) e (λ f. before n xs ys f)
  where
    go : (b : Bool) → b || listed n xs ≡ true → (listed n xs ≡ true → listed n (xs ++ ys) ≡ true) → b || listed n (xs ++ ys) ≡ true
    go true e f = refl
    go false e f = f e

-- the numbers of a call on a meter, document 01's among them
after : (n : ℕ) (xs : List ℕ) → listed n xs ≡ true → listed n (wrong_length ∷ wrong_version ∷ xs) ≡ true
after n xs e = go (eqb wrong_length n) (eqb wrong_version n)
  where
    go : (a b : Bool) → a || (b || listed n xs) ≡ true
    go true b = refl
    go false true = refl
    go false false = e

known : (c : LentOn) (n : ℕ) → listed n (numbers (call_of c)) ≡ true → listed n (library_numbers (call c)) ≡ true
known (receive a) n e = after n (numbers (frame a)) e
known (own c) n e = after n (on_numbers (own c)) (before n (numbers (owner (owner_of c))) (flag_numbers c) e)

-- a call that was made
made_number : (c : LentOn) (m : Model) (n : ℕ) → n ≡ (step p2 (call_of c) m).refusal → listed n (library_numbers (call c)) ≡ true
made_number c m n e = known c n (ap (λ (k : ℕ). listed k (numbers (call_of c))) e ∙ p2_numbers_allowed (call_of c) m)

-- Owner's calls that the library refuses.

-- a fault has its number or none, and with none the call is made
by_fault : (xs : List ℕ) (b : Bool) (k : ℕ) → listed 0 xs ≡ true → listed k xs ≡ true → listed (fault_of b k) xs ≡ true
by_fault xs true k z e = z
by_fault xs false k z e = e

fault_number : (c : LentOwner) → listed (fault c) (library_numbers (call (own c))) ≡ true
fault_number (registers s) = by_fault (library_numbers (call (own (registers s)))) (whole_list register_part s) 16 refl refl
fault_number (value n v) = by_fault (library_numbers (call (own (value n v)))) (sized 6 n) 17 refl refl
fault_number (columns s) = by_fault (library_numbers (call (own (columns s)))) (whole_list name_part s) 18 refl refl
fault_number (period d) = refl
fault_number (clock t) = by_fault (library_numbers (call (own (clock t)))) (sized 12 t) 14 refl refl
fault_number (p5 h) = by_fault (library_numbers (call (own (p5 h)))) (is_flag h) wrong_argument refl refl
fault_number powered = refl

whole_number : (y : Bool) (c : LentOwner) → listed (fault_refusal y (fault c)) (library_numbers (call (own c))) ≡ true
whole_number y c = go (eqb (fault c) 0) y
  where
    go : (b y : Bool) → listed (cond b 0 (cond y (fault c) not_sound)) (library_numbers (call (own c))) ≡ true
    go true y = refl
    go false true = fault_number c
    go false false = refl

own_number : (t : Status) (y : Bool) (c : LentOwner) → listed (refusal_by t y (fault c)) (library_numbers (call (own c))) ≡ true
own_number (Ok u) y c = whole_number y c
own_number (Err WrongLength) y c = refl
own_number (Err WrongVersion) y c = refl
own_number (Err NoImage) y c = refl

-- Frame calls that the library refuses.

image_number : (a : Lent) (t : Status) → listed (image_refusal t) (library_numbers (call (receive a))) ≡ true
image_number a (Ok u) = refl
image_number a (Err WrongLength) = refl
image_number a (Err WrongVersion) = refl
image_number a (Err NoImage) = refl

frame_number : (a : Lent) (t : Status) (k : ℕ) → listed k (numbers (frame a)) ≡ true → listed (frame_refusal t k) (library_numbers (call (receive a))) ≡ true
frame_number a t k e = go (eqb k 0)
  where
    go : (b : Bool) → listed (cond b (image_refusal t) k) (library_numbers (call (receive a))) ≡ true
    go true = image_number a t
    go false = known (receive a) k e

-- A new meter.

new_number : (s d t v h : List ℕ) → listed (new_refusal s d t v h) (library_numbers (renew d t v h)) ≡ true
new_number s d t v h = go (eqb (length s) image_size) (new_sized d t v h)
  where
    go : (a b : Bool) → listed (cond a (fault_of b wrong_argument) wrong_length) (library_numbers (renew d t v h)) ≡ true
    go true true = refl
    go true false = refl
    go false b = refl

pub library_numbers_lem : LibraryNumbers
library_numbers_lem s e c h (renews d t v y n f) = go (eqb (new_refusal s d t v y) 0) refl
  where
    go : (b : Bool) → eqb (new_refusal s d t v y) 0 ≡ b → listed n (library_numbers (renew d t v y)) ≡ true
    go true p = ap (λ (k : ℕ). listed k (library_numbers (renew d t v y))) (f.called (eqb-true _ _ p)).number
    go false p = ap (λ (k : ℕ). listed k (library_numbers (renew d t v y))) (f.refused (eqb-false _ _ p)) ∙ new_number s d t v y
library_numbers_lem s e c h (receives a l o k n f) = go (eqb (frame_refusal (status_of s) (lent_refusal a)) 0) refl
  where
    go : (b : Bool) → eqb (frame_refusal (status_of s) (lent_refusal a)) 0 ≡ b → listed n (library_numbers (call (receive a))) ≡ true
    go true p = made_number (receive a) (view (meter_of s)) n (f.called (eqb-true _ _ p)).promised.refusal
    go false p = ap (λ (k : ℕ). listed k (library_numbers (call (receive a)))) (f.refused (eqb-false _ _ p)).0 ∙ frame_number a (status_of s) (lent_refusal a) (lent_allowed a)
library_numbers_lem s e c h (owns d n f) = go (eqb (refusal_for d s) 0) refl
  where
    go : (b : Bool) → eqb (refusal_for d s) 0 ≡ b → listed n (library_numbers (call (own d))) ≡ true
    go true p = made_number (own d) (view (meter_of s)) n ((f.called (eqb-true _ _ p)).promised p2).refusal
    go false p = ap (λ (k : ℕ). listed k (library_numbers (call (own d)))) (f.refused (eqb-false _ _ p)) ∙ own_number (status_of s) (sound (view (meter_of s))) d
