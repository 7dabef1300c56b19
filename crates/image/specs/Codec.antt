-- What a part of an image is: how many bytes it takes, which they are, what is read from them, and which bytes are taken for it
-- at all. A layout is put together from parts: one after the other, as many of one kind, and the fields of a struct.
-- Reading is from the front of a byte string; what stands after the part does not matter.
use Rattle.std.specs.Prelude.{◌≡◌, Bool, true, false, ◌&&◌, cond, ℕ, zero, suc, ◌+◌, ◌*◌, ◌^◌, ◌<◌, eqb, ltb, length, take, drop, get_or}
use mathlib.Core.List.{List, [], ◌∷◌, ◌++◌, flat_map}
use Rattle.wire.specs.Numbers.{high_first, number_high}
use Rattle.line.specs.declared.Phase.{Phase}
use Rattle.line.specs.declared.Phase.TheVariants.{Idle, Pending, Associated}
use Rattle.picks.specs.declared.Progress.{Progress}
use Rattle.picks.specs.declared.Progress.TheVariants.{Idle as Resting, Running, Ended}
use Rattle.picks.specs.declared.PickingKind.{PickingKind}
use Rattle.picks.specs.declared.PickingKind.TheVariants.{Whole, Dated, Numbered}

pub record Codec (A : Type 0) : Type 1 where
  -- how many bytes
  pub size : ℕ
  -- what is written
  pub bytes : A → List ℕ
  -- what is read, from bytes that are taken
  pub value : List ℕ → A
  -- whether bytes are taken
  pub taken : List ℕ → Bool
  -- what can be written: all that a variable of the code can hold
  pub Holds : A → Type 0

-- Numbers, flags and bytes.

-- n bytes as they are
abbrev pub block : ℕ → Codec (List ℕ)
block n =
    record {
      size = n;
      bytes = λ x. x;
      value = λ s. take n s;
      taken = λ s. true;
      Holds = λ x. length x ≡ n;
    }

-- a byte
abbrev pub byte : Codec ℕ
byte =
    record {
      size = 1;
      bytes = λ x. x ∷ [];
      value = λ s. get_or s 0 0;
      taken = λ s. true;
      Holds = λ x. Unit {0};
    }

-- a number in w bytes, high byte first
abbrev pub number : ℕ → Codec ℕ
number w =
    record {
      size = w;
      bytes = λ x. high_first w x;
      value = λ s. number_high (take w s);
      taken = λ s. true;
      Holds = λ x. x < 256 ^ w;
    }

abbrev pub flag_byte : Bool → ℕ
flag_byte false = 0
flag_byte true = 1

-- 0 or 1, and no other byte
unfoldable pub flag : Codec Bool
flag =
    record {
      size = 1;
      bytes = λ x. flag_byte x ∷ [];
      value = λ s. eqb (get_or s 0 0) 1;
      taken = λ s. ltb (get_or s 0 0) 2;
      Holds = λ x. Unit {0};
    }

-- whether a byte string begins with 0, 1 or 2
abbrev pub below_three : List ℕ → Bool
below_three s = ltb (get_or s 0 0) 3

-- which of three a byte is
abbrev pub which : {A : Type 0} → (x y z : A) → ℕ → A
which x y z b = cond (eqb b 0) x (cond (eqb b 1) y z)

-- one of three, as 0, 1 or 2, and no other byte
abbrev pub one_of : {A : Type 0} → (A → ℕ) → (x y z : A) → Codec A
one_of f x y z =
    record {
      size = 1;
      bytes = λ a. f a ∷ [];
      value = λ s. which x y z (get_or s 0 0);
      taken = below_three;
      Holds = λ a. Unit {0};
    }

abbrev pub phase_byte : Phase → ℕ
phase_byte Idle = 0
phase_byte Pending = 1
phase_byte Associated = 2

unfoldable pub phase : Codec Phase
phase = one_of phase_byte Idle Pending Associated

abbrev pub progress_byte : Progress → ℕ
progress_byte Resting = 0
progress_byte Running = 1
progress_byte Ended = 2

unfoldable pub progress : Codec Progress
progress = one_of progress_byte Resting Running Ended

abbrev pub kind_byte : PickingKind → ℕ
kind_byte Whole = 0
kind_byte Dated = 1
kind_byte Numbered = 2

unfoldable pub picking_kind : Codec PickingKind
picking_kind = one_of kind_byte Whole Dated Numbered

-- Parts together.

infixr 60 ◌&◌
-- one, and another right after it
abbrev pub ◌&◌ : {A B : Type 0} → Codec A → Codec B → Codec (A × B)
◌&◌ a b =
    record {
      size = a.size + b.size;
      bytes = λ x. a.bytes x.0 ++ b.bytes x.1;
      value = λ s. (a.value s, b.value (drop a.size s));
      taken = λ s. a.taken s && b.taken (drop a.size s);
      Holds = λ x. a.Holds x.0 × b.Holds x.1;
    }

-- the same bytes for another type: a struct, by its fields in their order
unfoldable pub fields : {A B : Type 0} → (B → A) → (A → B) → Codec A → Codec B
fields to from c =
    record {
      size = c.size;
      bytes = λ x. c.bytes (to x);
      value = λ s. from (c.value s);
      taken = c.taken;
      Holds = λ x. c.Holds (to x);
    }

module _ {A : Type 0} (c : Codec A) where
  unfoldable pub values : ℕ → List ℕ → List A
  values zero s = []
  values (suc n) s = c.value s ∷ values n (drop c.size s)

  unfoldable pub all_taken : ℕ → List ℕ → Bool
  all_taken zero s = true
  all_taken (suc n) s = c.taken s && all_taken n (drop c.size s)

pub data Each {A : Type 0} (P : A → Type 0) : List A → Type 0 where
  none : Each P []
  more : {x : A} {xs : List A} → P x → Each P xs → Each P (x ∷ xs)

-- n of one kind
abbrev pub many : {A : Type 0} → ℕ → Codec A → Codec (List A)
many n c =
    record {
      size = n * c.size;
      bytes = λ xs. flat_map c.bytes xs;
      value = λ s. values c n s;
      taken = λ s. all_taken c n s;
      Holds = λ xs. (length xs ≡ n) × Each c.Holds xs;
    }

-- a part was read at a place
pub record Got {A : Type 0} (c : Codec A) (s : List ℕ) (at : ℕ) (x : A) : Type 0 where
  pub is : x ≡ c.value (drop at s)
