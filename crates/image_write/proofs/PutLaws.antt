-- A part that was written, by the writes that it took: numbers and bytes, one part after the other, the fields of a struct.
-- Over any part; what makes parts lawful is image's.
use mathlib.Core.Path.{◌≡◌, refl, subst, ap, ap₂, ◌∙◌}
use mathlib.Core.Bool.{Bool}
use mathlib.Core.List.{List, [], ◌∷◌, reverse}
use Prim.Native.Nat.{ℕ, zero, suc, ◌+◌, ◌*◌, ◌/◌, ◌%◌, ◌^◌, ◌≤◌, ◌<◌}
use native.Mathlib.Nat.{mod-lt, pow-suc}
use native.Mathlib.Omega.{arith}
use lib.Arith.{mod-mul, digits_mod, digits_div}
use lib.Dec.{lit<}
use lib.ListN.{length, length-append}
use Rattle.wire.specs.Numbers.{low_first, high_first}
use Rattle.wire.specs.Wrote.{Wrote, WroteArray}
use Rattle.wire.proofs.NumberLaws.{length_high}
use Rattle.wire_write.proofs.WroteLaws.{then}
use Rattle.line.specs.declared.Phase.{Phase}
use Rattle.line.specs.declared.Phase.TheVariants.{Idle, Pending, Associated}
use Rattle.picks.specs.declared.Progress.{Progress}
use Rattle.picks.specs.declared.Progress.TheVariants.{Idle as Resting, Running, Ended}
use Rattle.picks.specs.declared.PickingKind.{PickingKind}
use Rattle.picks.specs.declared.PickingKind.TheVariants.{Whole, Dated, Numbered}
use Rattle.image.specs.Codec.{Codec, block, number, flag, flag_byte, phase, phase_byte, progress, progress_byte, picking_kind, kind_byte, ◌&◌, fields}
use Rattle.image_write.specs.Writing.{Put}

-- A number of eight bytes is written as two of four.

pow_pos : (w : ℕ) → 0 < 256 ^ w
pow_pos zero = lit< tt
pow_pos (suc w) = let h = pow_pos w in rw (pow-suc 256 w) (omega arith)

-- what lies above the low w bytes does not show in them
low_mod : (w n : ℕ) → low_first w (n % 256 ^ w) ≡ low_first w n
low_mod zero n = refl
low_mod (suc w) n =
    let q = n / 256 % 256 ^ w in
    let h : n % 256 < 256 = mod-lt n (lit< tt) in
    let e : n % 256 ^ suc w ≡ q * 256 + n % 256 = ap (λ (k : ℕ). n % k) (pow-suc 256 w) ∙ mod-mul n (pow_pos w) (lit< tt) in
    ap (low_first (suc w)) e
    ∙ ap₂ (λ (x : ℕ) (xs : List ℕ). x ∷ xs) (digits_mod q h) (ap (low_first w) (digits_div q h) ∙ low_mod w (n / 256))

pub halves : (n : ℕ) {l m p : List ℕ} {at k next : ℕ} → Wrote l at m k (high_first 4 (n / 256 / 256 / 256 / 256)) → Wrote m k p next (high_first 4 (n % 4294967296)) → Wrote l at p next (high_first 8 n)
halves n {m = m} {p = p} {k = k} {next = next} u v =
    then u (subst (λ (bs : List ℕ). Wrote m k p next bs) (ap reverse (low_mod 4 n)) v)

-- One of three.
pub data OneOf {A : Type 0} (x y z a : A) : Type 0 where
  is_first : a ≡ x → OneOf x y z a
  is_second : a ≡ y → OneOf x y z a
  is_third : a ≡ z → OneOf x y z a

pub phase_is : (a : Phase) → OneOf Idle Pending Associated a
phase_is Idle = is_first refl
phase_is Pending = is_second refl
phase_is Associated = is_third refl

pub progress_is : (a : Progress) → OneOf Resting Running Ended a
progress_is Resting = is_first refl
progress_is Running = is_second refl
progress_is Ended = is_third refl

pub kind_is : (a : PickingKind) → OneOf Whole Dated Numbered a
kind_is Whole = is_first refl
kind_is Dated = is_second refl
kind_is Numbered = is_third refl

-- Parts that were written.

module _ {l m : List ℕ} {at next : ℕ} where
  pub put_block : {n : ℕ} {x : List ℕ} → WroteArray n l at m next x → Put (block n) x l at m next
  put_block w = record { wrote = w.wrote; sized = w.sized; holds = w.sized }

  pub put_number : (w x : ℕ) → (number w).Holds x → Wrote l at m next (high_first w x) → Put (number w) x l at m next
  put_number w x h u = record { wrote = u; sized = length_high w x; holds = h }

  pub put_flag : (x : Bool) → Wrote l at m next (flag_byte x ∷ []) → Put flag x l at m next
  unfolding flag
  put_flag x w = record { wrote = w; sized = refl; holds = tt }

  pub put_phase : (x : Phase) → Wrote l at m next (phase_byte x ∷ []) → Put phase x l at m next
  unfolding phase
  put_phase x w = record { wrote = w; sized = refl; holds = tt }

  pub put_progress : (x : Progress) → Wrote l at m next (progress_byte x ∷ []) → Put progress x l at m next
  unfolding progress
  put_progress x w = record { wrote = w; sized = refl; holds = tt }

  pub put_kind : (x : PickingKind) → Wrote l at m next (kind_byte x ∷ []) → Put picking_kind x l at m next
  unfolding picking_kind
  put_kind x w = record { wrote = w; sized = refl; holds = tt }

pub put_both : {A B : Type 0} {a : Codec A} {b : Codec B} {x : A} {y : B} {l m n : List ℕ} {at k next : ℕ}
    → Put a x l at m k → Put b y m k n next → Put (a & b) (x, y) l at n next
put_both {a = a} {b = b} {x = x} {y = y} p q =
    record {
      wrote = then p.wrote q.wrote;
      sized = length-append (a.bytes x) (b.bytes y) ∙ ap₂ ◌+◌ p.sized q.sized;
      holds = (p.holds, q.holds);
    }

pub put_fields : {A B : Type 0} {c : Codec A} (to : B → A) (from : A → B) {x : B} {l m : List ℕ} {at next : ℕ} → Put c (to x) l at m next → Put (fields to from c) x l at m next
unfolding fields
put_fields to from w = record { wrote = w.wrote; sized = w.sized; holds = w.holds }

-- what a part leaves of the room, for those behind it
pub room_left : {A : Type 0} {c : Codec A} {x : A} {l m : List ℕ} {at next : ℕ} (n : ℕ) → Put c x l at m next → at + (c.size + n) ≤ length l → next + n ≤ length m
room_left n p h = omega (arith, p.wrote.next, p.wrote.kept, p.sized)
