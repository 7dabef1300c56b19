-- What makes a part a codec: what is written is as long as the part says, is read back, and is taken; and what was taken and
-- read is written back byte for byte. Each way of putting parts together keeps it.
use mathlib.Core.Path.{◌≡◌, refl, sym, ap, ap₂, ◌∙◌}
use mathlib.Core.Bool.{Bool, true, false, ◌&&◌, and-eq-true_iff}
use mathlib.Core.List.{List, [], ◌∷◌, ◌++◌, flat_map, append_assoc}
use Prim.Native.Nat.{ℕ, zero, suc, ◌+◌, ◌*◌, ◌≤◌, ◌<◌}
use native.Mathlib.Nat.{zero-mul, suc-mul, mod-eq_of_lt, add-zero}
use native.Mathlib.Omega.{arith}
use lib.Dec.{eqb, ltb}
use lib.ListN.{length, take, drop, get_or, replicate, length-append, length-drop, length-replicate}
use lib.Seq.{take_at, drop_at, drop-drop, take-add, get_or-drop, length-take-le}
use borrow.Author.Tests.{ltb-true}
use Rattle.wire.specs.Numbers.{high_first, number_high}
use Rattle.wire.specs.Reading.{filled}
use Rattle.wire.proofs.NumberLaws.{Bytes, length_high, high_number, high_bytes}
use Rattle.wire.proofs.ReadingLaws.{fill_here, part_bytes}
use Rattle.line.specs.declared.Phase.{Phase}
use Rattle.line.specs.declared.Phase.TheVariants.{Idle, Pending, Associated}
use Rattle.picks.specs.declared.Progress.{Progress}
use Rattle.picks.specs.declared.Progress.TheVariants.{Idle as Resting, Running, Ended}
use Rattle.picks.specs.declared.PickingKind.{PickingKind}
use Rattle.picks.specs.declared.PickingKind.TheVariants.{Whole, Dated, Numbered}
use Rattle.image.specs.Codec.{Codec, block, byte, number, flag, flag_byte, which, one_of, phase, phase_byte, progress, progress_byte, picking_kind, kind_byte, ◌&◌, fields, values, all_taken, Each, none, more, many, Got}

pub record Lawful {A : Type 0} (c : Codec A) : Type 0 where
  pub sized : (x : A) → c.Holds x → length (c.bytes x) ≡ c.size
  pub back : (x : A) → c.Holds x → (rest : List ℕ) → c.value (c.bytes x ++ rest) ≡ x
  pub passes : (x : A) → c.Holds x → (rest : List ℕ) → c.taken (c.bytes x ++ rest) ≡ true
  pub again : (s : List ℕ) → Bytes s → c.size ≤ length s → c.taken s ≡ true → c.bytes (c.value s) ≡ take c.size s

-- Numbers, flags and bytes.

pub block_lawful : (n : ℕ) → Lawful (block n)
block_lawful n =
    record {
      sized = λ x h. h;
      back = λ x h rest. take_at x rest n h;
      passes = λ x h rest. refl;
      again = λ s b h t. refl;
    }

first : (s : List ℕ) → 1 ≤ length s → get_or s 0 0 ∷ [] ≡ take 1 s
first [] h = absurd (omega arith)
first (x ∷ xs) h = refl

pub byte_lawful : Lawful byte
byte_lawful =
    record {
      sized = λ x h. refl;
      back = λ x h rest. refl;
      passes = λ x h rest. refl;
      again = λ s b h t. first s h;
    }

pub number_lawful : (w : ℕ) → Lawful (number w)
number_lawful w =
    record {
      sized = λ x h. length_high w x;
      back = λ x h rest. ap number_high (take_at (high_first w x) rest w (length_high w x)) ∙ high_number w x ∙ mod-eq_of_lt h;
      passes = λ x h rest. refl;
      again = λ s b h t.
          let n : length (take w s) ≡ w = length-take-le w s h in
          rw n at (high_bytes (take w s) (part_bytes s 0 w b));
    }

flag_back : (x : Bool) → eqb (flag_byte x) 1 ≡ x
flag_back true = refl
flag_back false = refl

flag_passes : (x : Bool) → ltb (flag_byte x) 2 ≡ true
flag_passes true = refl
flag_passes false = refl

flag_again : (b : ℕ) → b < 2 → flag_byte (eqb b 1) ≡ b
flag_again zero h = refl
flag_again (suc zero) h = refl
flag_again (suc (suc n)) h = absurd (omega arith)

pub flag_lawful : Lawful flag
unfolding flag
flag_lawful =
    record {
      sized = λ x h. refl;
      back = λ x h rest. flag_back x;
      passes = λ x h rest. flag_passes x;
      again = λ s b h t. ap (λ (x : ℕ). x ∷ []) (flag_again (get_or s 0 0) (ltb-true (get_or s 0 0) 2 t)) ∙ first s h;
    }

-- One of three: its byte gives it back, and is one of the three.
record Told {A : Type 0} (f : A → ℕ) (x y z : A) (a : A) : Type 0 where
  back : which x y z (f a) ≡ a
  passes : ltb (f a) 3 ≡ true

module _ {A : Type 0} (f : A → ℕ) (x y z : A) where
  which_byte : f x ≡ 0 → f y ≡ 1 → f z ≡ 2 → (b : ℕ) → b < 3 → f (which x y z b) ≡ b
  which_byte p q r zero h = p
  which_byte p q r (suc zero) h = q
  which_byte p q r (suc (suc zero)) h = r
  which_byte p q r (suc (suc (suc n))) h = absurd (omega arith)

  one_of_lawful : ((a : A) → Told f x y z a) → f x ≡ 0 → f y ≡ 1 → f z ≡ 2 → Lawful (one_of f x y z)
  one_of_lawful t p q r =
      record {
        sized = λ a h. refl;
        back = λ a h rest. (t a).back;
        passes = λ a h rest. (t a).passes;
        again = λ s b h k. ap (λ (n : ℕ). n ∷ []) (which_byte p q r (get_or s 0 0) (ltb-true (get_or s 0 0) 3 k)) ∙ first s h;
      }

phase_told : (a : Phase) → Told phase_byte Idle Pending Associated a
phase_told Idle = record { back = refl; passes = refl }
phase_told Pending = record { back = refl; passes = refl }
phase_told Associated = record { back = refl; passes = refl }

pub phase_lawful : Lawful phase
unfolding phase
phase_lawful = one_of_lawful phase_byte Idle Pending Associated phase_told refl refl refl

progress_told : (a : Progress) → Told progress_byte Resting Running Ended a
progress_told Resting = record { back = refl; passes = refl }
progress_told Running = record { back = refl; passes = refl }
progress_told Ended = record { back = refl; passes = refl }

pub progress_lawful : Lawful progress
unfolding progress
progress_lawful = one_of_lawful progress_byte Resting Running Ended progress_told refl refl refl

kind_told : (a : PickingKind) → Told kind_byte Whole Dated Numbered a
kind_told Whole = record { back = refl; passes = refl }
kind_told Dated = record { back = refl; passes = refl }
kind_told Numbered = record { back = refl; passes = refl }

pub kind_lawful : Lawful picking_kind
unfolding picking_kind
kind_lawful = one_of_lawful kind_byte Whole Dated Numbered kind_told refl refl refl

-- the byte at a place
pub at_front : (s : List ℕ) (at : ℕ) → get_or (drop at s) 0 0 ≡ get_or s at 0
at_front s at = rw (get_or-drop at s 0 0, add-zero at)

-- One after the other.

pub rest_bytes : (n : ℕ) (s : List ℕ) → Bytes s → Bytes (drop n s)
rest_bytes n s b i = rw (get_or-drop n s i 0) (b (n + i))

module _ {A B : Type 0} {a : Codec A} {b : Codec B} (p : Lawful a) (q : Lawful b) where
  module _ (x : A) (y : B) (h : a.Holds x) (k : b.Holds y) (rest : List ℕ) where
    front : (a.bytes x ++ b.bytes y) ++ rest ≡ a.bytes x ++ (b.bytes y ++ rest)
    front = append_assoc (a.bytes x) (b.bytes y) rest

    behind : drop a.size ((a.bytes x ++ b.bytes y) ++ rest) ≡ b.bytes y ++ rest
    behind = ap (drop a.size) front ∙ drop_at (a.bytes x) (b.bytes y ++ rest) a.size (p.sized x h)

    both_back : (a & b).value ((a.bytes x ++ b.bytes y) ++ rest) ≡ (x, y)
    both_back =
        ap₂ (λ (u : A) (v : B). (u, v)) (ap a.value front ∙ p.back x h (b.bytes y ++ rest)) (ap b.value behind ∙ q.back y k rest)

    both_passes : (a & b).taken ((a.bytes x ++ b.bytes y) ++ rest) ≡ true
    both_passes =
        ap₂ ◌&&◌ (ap a.taken front ∙ p.passes x h (b.bytes y ++ rest)) (ap b.taken behind ∙ q.passes y k rest)

  both_again : (s : List ℕ) → Bytes s → a.size + b.size ≤ length s → (a.taken s && b.taken (drop a.size s)) ≡ true
      → a.bytes (a.value s) ++ b.bytes (b.value (drop a.size s)) ≡ take (a.size + b.size) s
  both_again s k h t =
      let e = (and-eq-true_iff (a.taken s) (b.taken (drop a.size s))).0 t in
      ap₂ ◌++◌ (p.again s k (omega arith) e.0) (q.again (drop a.size s) (rest_bytes a.size s k) (rw (length-drop a.size s) (omega arith)) e.1)
      ∙ sym (take-add a.size b.size s)

  pub both_lawful : Lawful (a & b)
  both_lawful =
      record {
        sized = λ x h. length-append (a.bytes x.0) (b.bytes x.1) ∙ ap₂ ◌+◌ (p.sized x.0 h.0) (q.sized x.1 h.1);
        back = λ x h rest. both_back x.0 x.1 h.0 h.1 rest;
        passes = λ x h rest. both_passes x.0 x.1 h.0 h.1 rest;
        again = both_again;
      }

-- A struct by its fields.

module _ {A B : Type 0} {c : Codec A} (to : B → A) (from : A → B) (p : Lawful c) where
  pub fields_lawful : ((x : B) → from (to x) ≡ x) → ((y : A) → to (from y) ≡ y) → Lawful (fields to from c)
  unfolding fields
  fields_lawful u v =
      record {
        sized = λ x h. p.sized (to x) h;
        back = λ x h rest. ap from (p.back (to x) h rest) ∙ u x;
        passes = λ x h rest. p.passes (to x) h rest;
        again = λ s b h t. ap c.bytes (v (c.value s)) ∙ p.again s b h t;
      }

-- As many of one kind.

module _ {A : Type 0} {c : Codec A} (p : Lawful c) where
  each_sized : (xs : List A) → Each c.Holds xs → length (flat_map c.bytes xs) ≡ length xs * c.size
  unfolding flat_map
  each_sized [] none = sym (zero-mul c.size)
  each_sized (x ∷ xs) (more h k) =
      let e = p.sized x h in
      let f = each_sized xs k in
      omega (arith, length-append (c.bytes x) (flat_map c.bytes xs), suc-mul (length xs) c.size)

  module _ (x : A) (xs : List A) (h : c.Holds x) (rest : List ℕ) where
    next_front : (c.bytes x ++ flat_map c.bytes xs) ++ rest ≡ c.bytes x ++ (flat_map c.bytes xs ++ rest)
    next_front = append_assoc (c.bytes x) (flat_map c.bytes xs) rest

    next_behind : drop c.size ((c.bytes x ++ flat_map c.bytes xs) ++ rest) ≡ flat_map c.bytes xs ++ rest
    next_behind = ap (drop c.size) next_front ∙ drop_at (c.bytes x) (flat_map c.bytes xs ++ rest) c.size (p.sized x h)

  each_back : (xs : List A) → Each c.Holds xs → (rest : List ℕ) → values c (length xs) (flat_map c.bytes xs ++ rest) ≡ xs
  unfolding flat_map values
  each_back [] none rest = refl
  each_back (x ∷ xs) (more h k) rest =
      ap₂ ◌∷◌ (ap c.value (next_front x xs h rest) ∙ p.back x h (flat_map c.bytes xs ++ rest))
      (ap (values c (length xs)) (next_behind x xs h rest) ∙ each_back xs k rest)

  each_passes : (xs : List A) → Each c.Holds xs → (rest : List ℕ) → all_taken c (length xs) (flat_map c.bytes xs ++ rest) ≡ true
  unfolding flat_map all_taken
  each_passes [] none rest = refl
  each_passes (x ∷ xs) (more h k) rest =
      ap₂ ◌&&◌ (ap c.taken (next_front x xs h rest) ∙ p.passes x h (flat_map c.bytes xs ++ rest))
      (ap (all_taken c (length xs)) (next_behind x xs h rest) ∙ each_passes xs k rest)

  each_again : (n : ℕ) (s : List ℕ) → Bytes s → n * c.size ≤ length s → all_taken c n s ≡ true → flat_map c.bytes (values c n s) ≡ take (n * c.size) s
  unfolding flat_map values all_taken
  each_again zero s k h t = rw (zero-mul c.size)
  each_again (suc n) s k h t =
      let z = c.size in
      let e = (and-eq-true_iff (c.taken s) (all_taken c n (drop z s))).0 t in
      let j : suc n * z ≡ z + n * z = omega (arith, suc-mul n z) in
      ap₂ ◌++◌ (p.again s k (omega arith) e.0) (each_again n (drop z s) (rest_bytes z s k) (rw (length-drop z s) (omega arith)) e.1)
      ∙ sym (take-add z (n * z) s)
      ∙ ap (λ (i : ℕ). take i s) (sym j)

  pub many_lawful : (n : ℕ) → Lawful (many n c)
  many_lawful n =
      record {
        sized = λ xs h. each_sized xs h.1 ∙ ap (λ (k : ℕ). k * c.size) h.0;
        back = λ xs h rest. ap (λ (k : ℕ). values c k (flat_map c.bytes xs ++ rest)) (sym h.0) ∙ each_back xs h.1 rest;
        passes = λ xs h rest. ap (λ (k : ℕ). all_taken c k (flat_map c.bytes xs ++ rest)) (sym h.0) ∙ each_passes xs h.1 rest;
        again = each_again n;
      }

-- Parts that were read.

pub got_block : (n : ℕ) {s : List ℕ} {at : ℕ} {x : List ℕ} → at + n ≤ length s → x ≡ filled s at (replicate n 0) → Got (block n) s at x
got_block n {s} {at} h e =
    let z : length (replicate {A = ℕ} n 0) ≡ n = length-replicate n 0 in
    record { is = e ∙ rw z at (fill_here s at (replicate n 0) (rw z h)) }

pub got_both : {A B : Type 0} {a : Codec A} {b : Codec B} {s : List ℕ} {at z : ℕ} {x : A} {y : B} → Got a s at x → a.size ≡ z → Got b s (at + z) y → Got (a & b) s at (x, y)
got_both {A = A} {B = B} {a = a} {b = b} {s = s} {at = at} g e h =
    record { is = ap₂ (λ (u : A) (v : B). (u, v)) g.is (h.is ∙ ap b.value (ap (λ (k : ℕ). drop (at + k) s) (sym e) ∙ sym (drop-drop a.size at s))) }

pub got_fields : {A B : Type 0} {c : Codec A} (to : B → A) (from : A → B) {s : List ℕ} {at : ℕ} {x : A} → Got c s at x → Got (fields to from c) s at (from x)
unfolding fields
got_fields to from g = record { is = ap from g.is }
