-- The loop over an array's elements that writes each. Over any part; the loops that read and test each are image's.
use mathlib.Core.Path.{◌≡◌, sym, ap, ap₂, ◌∙◌}
use mathlib.Core.List.{List, [], ◌∷◌, ◌++◌, flat_map}
use Prim.Native.Nat.{ℕ, ◌+◌, ◌*◌, ◌≤◌, ◌<◌}
use native.Mathlib.Nat.{zero-mul, suc-mul}
use native.Mathlib.Numerals.{add-one}
use native.Mathlib.Omega.{arith}
use lib.ListN.{length, take, get_or, length-append}
use lib.Seq.{take-suc, take_all}
use Rattle.wire.specs.Wrote.{Wrote}
use Rattle.wire_write.proofs.FlatLaws.{flat_more}
use Rattle.wire_write.proofs.WroteLaws.{then, nothing}
use Rattle.image.specs.Codec.{Codec, Each, none, more, many}
use Rattle.image.proofs.LoopLaws.{room_more}
use Rattle.image_write.specs.Writing.{Put}

-- The first i elements are written.
pub record Putting {A : Type 0} (c : Codec A) (n : ℕ) (xs : List A) (l : List ℕ) (at : ℕ) (m : List ℕ) (k i : ℕ) : Type 0 where
  pub below : i ≤ n
  pub full : length xs ≡ n
  pub wrote : Wrote l at m k (flat_map c.bytes (take i xs))
  pub sized : length (flat_map c.bytes (take i xs)) ≡ i * c.size
  pub each : Each c.Holds (take i xs)

each_more : {A : Type 0} {P : A → Type 0} {xs : List A} {x : A} → Each P xs → P x → Each P (xs ++ (x ∷ []))
each_more none h = more h none
each_more (more k ks) h = more k (each_more ks h)

module _ {A : Type 0} {c : Codec A} {n : ℕ} {xs : List A} {l : List ℕ} {at : ℕ} where
  pub putting_none : length xs ≡ n → at ≤ length l → Putting c n xs l at l at 0
  unfolding flat_map
  putting_none e h = record { below = omega arith; full = e; wrote = nothing l at h; sized = sym (zero-mul c.size); each = none }

  pub putting_more : {m m' : List ℕ} {k k' i : ℕ} (d : A) → Putting c n xs l at m k i → i < n → Put c (get_or xs i d) m k m' k' → Putting c n xs l at m' k' (i + 1)
  putting_more {i = i} d p h w =
      let x = get_or xs i d in
      let t : take (i + 1) xs ≡ take i xs ++ (x ∷ []) = rw add-one (take-suc xs i d (omega (arith, p.full))) in
      let f = flat_more c.bytes xs i d (omega (arith, p.full)) in
      record {
        below = omega arith;
        full = p.full;
        wrote = rw f (then p.wrote w.wrote);
        sized = ap length f ∙ length-append (flat_map c.bytes (take i xs)) (c.bytes x) ∙ ap₂ ◌+◌ p.sized w.sized ∙ rw add-one (sym (suc-mul i c.size));
        each = rw t (each_more p.each w.holds);
      }

  pub putting_room : {m : List ℕ} {k i : ℕ} → Putting c n xs l at m k i → at + n * c.size ≤ length l → i < n → k + c.size ≤ length m
  putting_room {i = i} p h j = omega (arith, p.sized, p.wrote.next, p.wrote.kept, room_more i n c.size at j h)

  pub putting_all : {m : List ℕ} {k i : ℕ} → Putting c n xs l at m k i → n ≤ i → Put (many n c) xs l at m k
  putting_all {i = i} p h =
      let e : take i xs ≡ xs = take_all i xs (omega (arith, p.full)) in
      let j : i ≡ n = omega (arith, p.below) in
      record {
        wrote = rw e at p.wrote;
        sized = ap (λ (t : List A). length (flat_map c.bytes t)) (sym e) ∙ p.sized ∙ ap (λ (k : ℕ). k * c.size) j;
        holds = (p.full, rw e at p.each);
      }
