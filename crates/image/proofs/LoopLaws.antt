-- As many parts as are asked for, one after the other: read into an array, and their bytes tested. Over any part.
use mathlib.Core.Path.{◌≡◌, refl, sym, ap, ap₂, ◌∙◌}
use mathlib.Core.Bool.{Bool, true, false, ◌&&◌, and-false}
use mathlib.Core.List.{List, [], ◌∷◌, ◌++◌}
use Prim.Native.Nat.{ℕ, zero, suc, ◌+◌, ◌*◌, ◌≤◌, ◌<◌}
use native.Mathlib.Nat.{zero-mul, suc-mul, mul-le-mul_right, zero-add}
use native.Mathlib.Numerals.{add-one}
use native.Mathlib.Omega.{arith}
use lib.ListN.{length, take, drop, set, get_or, length-set}
use lib.Seq.{take-suc-set, take_all, drop-drop}
use Rattle.std.specs.Bool.{MatchBool}
use Rattle.std.specs.List.{range_with_len, AllWithin, HoldsAt}
use Rattle.std.proofs.lemmas.List.FromFn.{length-range_with_len, get_or-range_with_len}
use Rattle.image.specs.Codec.{Codec, values, all_taken, many, Got}
use Rattle.image.specs.Lists.{Firsts}

-- the room for one more
pub room_more : (i n z at : ℕ) {l : ℕ} → i < n → at + n * z ≤ l → at + i * z + z ≤ l
room_more i n z at j h = omega (arith, suc-mul i z, mul-le-mul_right {m = suc i} {n = n} z (omega arith))

-- element i of an array
pub value_at_lem : {A : Type 0} (c : Codec A) (n : ℕ) (s : List ℕ) (i : ℕ) (d : A) → i < n → get_or (values c n s) i d ≡ c.value (drop (i * c.size) s)
unfolding values
value_at_lem c zero s i d h = absurd (omega arith)
value_at_lem c (suc n) s zero d h = rw (zero-mul c.size)
value_at_lem c (suc n) s (suc i) d h =
    let z = c.size in
    let j : z + i * z ≡ suc i * z = omega (arith, suc-mul i z) in
    value_at_lem c n (drop z s) i d (omega arith) ∙ ap c.value (drop-drop (i * z) z s ∙ ap (λ (k : ℕ). drop k s) j)

-- as many as are counted
pub length_values : {A : Type 0} (c : Codec A) (n : ℕ) (s : List ℕ) → length (values c n s) ≡ n
unfolding values
length_values c zero s = refl
length_values c (suc n) s = ap suc (length_values c n (drop c.size s))

-- Of n parts that are read into so many places the first i are read.
pub record Getting {A : Type 0} (c : Codec A) (places n : ℕ) (s : List ℕ) (at : ℕ) (out : List A) (i : ℕ) : Type 0 where
  pub below : i ≤ n
  pub full : length out ≡ places
  pub done : take i out ≡ values c i (drop at s)

-- one more, at its place
values_last : {A : Type 0} (c : Codec A) (n : ℕ) (s : List ℕ) → values c (suc n) s ≡ values c n s ++ (c.value (drop (n * c.size) s) ∷ [])
unfolding values
values_last c zero s = rw (zero-mul c.size)
values_last c (suc n) s =
    let z = c.size in
    let j : z + n * z ≡ suc n * z = omega (arith, suc-mul n z) in
    ap (◌∷◌ (c.value s)) (values_last c n (drop z s) ∙ ap (λ (t : List ℕ). values c n (drop z s) ++ (c.value t ∷ [])) (drop-drop (n * z) z s ∙ ap (λ (k : ℕ). drop k s) j))

module _ {A : Type 0} {c : Codec A} {places n : ℕ} {s : List ℕ} {at : ℕ} {out : List A} where
  pub getting_none : length out ≡ places → Getting c places n s at out 0
  unfolding values
  getting_none e = record { below = omega arith; full = e; done = refl }

  module _ {i : ℕ} (p : Getting c places n s at out i) where
    pub getting_more : {x : A} {z : ℕ} → c.size ≡ z → n ≤ places → i < n → Got c s (at + i * z) x → Getting c places n s at (set out i x) (i + 1)
    getting_more {x} {z} q fits h g =
        let o : i < length out = omega (arith, p.full, fits) in
        let v : values c (suc i) (drop at s) ≡ values c i (drop at s) ++ (x ∷ []) =
        values_last c i (drop at s)
        ∙ ap (λ (t : A). values c i (drop at s) ++ (t ∷ [])) (ap c.value (drop-drop (i * c.size) at s ∙ ap (λ (k : ℕ). drop (at + i * k) s) q) ∙ sym g.is) in
        record {
          below = omega arith;
          full = length-set out i x ∙ p.full;
          done = rw add-one (take-suc-set out i x o ∙ ap (λ (t : List A). t ++ (x ∷ [])) p.done ∙ sym v);
        }

    pub getting_firsts : n ≤ i → Firsts c places n s at out
    getting_firsts h =
        let j : i ≡ n = omega (arith, p.below) in
        record { full = p.full; are = rw j at p.done }

-- where every place is read
pub firsts_all : {A : Type 0} {c : Codec A} {n : ℕ} {s : List ℕ} {at : ℕ} {xs : List A} → Firsts c n n s at xs → Got (many n c) s at xs
firsts_all {n = n} {xs = xs} f = record { is = sym (take_all n xs (omega (arith, f.full))) ∙ f.are }

-- whether all are taken, by the first that is not
module _ {A : Type 0} (c : Codec A) where
  pub each_taken_lem : (n : ℕ) (s : List ℕ) → ((i : ℕ) → i < n → c.taken (drop (i * c.size) s) ≡ true) → all_taken c n s ≡ true
  unfolding all_taken
  each_taken_lem zero s h = refl
  each_taken_lem (suc n) s h =
      ap₂ ◌&&◌ (rw (zero-mul c.size) at (h 0 (omega arith)))
      (each_taken_lem n (drop c.size s) (λ i j. ap c.taken (drop-drop (i * c.size) c.size s ∙ ap (λ (k : ℕ). drop k s) (omega (arith, suc-mul i c.size))) ∙ h (suc i) (omega arith)))

  pub one_fails : (n : ℕ) (s : List ℕ) (i : ℕ) → i < n → c.taken (drop (i * c.size) s) ≡ false → all_taken c n s ≡ false
  unfolding all_taken
  one_fails zero s i h e = absurd (omega arith)
  one_fails (suc n) s zero h e = ap (λ (b : Bool). b && all_taken c n (drop c.size s)) (rw (zero-mul c.size) at e)
  one_fails (suc n) s (suc i) h e =
      ap (λ (b : Bool). c.taken s && b)
      (one_fails n (drop c.size s) i (omega arith) (ap c.taken (drop-drop (i * c.size) c.size s ∙ ap (λ (k : ℕ). drop k s) (omega (arith, suc-mul i c.size))) ∙ e))
      ∙ and-false (c.taken s)

  -- by a test of each in turn
  pub taken_by : (n at : ℕ) {z : ℕ} (s : List ℕ) {r : Bool} → c.size ≡ z
      → MatchBool r (AllWithin (λ (i : ℕ). c.taken (drop (at + i * z) s) ≡ true) (range_with_len 0 n) 0 (length (range_with_len 0 n)))
      ((k : ℕ) × (k < length (range_with_len 0 n)) × HoldsAt (λ (i : ℕ). c.taken (drop (at + i * z) s) ≡ false) (range_with_len 0 n) k)
      → r ≡ all_taken c n (drop at s)
  taken_by n at {z} s {r} q = go r
    where
      place : (i : ℕ) → i < n → c.taken (drop (i * c.size) (drop at s)) ≡ c.taken (drop (at + get_or (range_with_len 0 n) i 0 * z) s)
      place i h =
          ap c.taken (drop-drop (i * c.size) at s ∙ ap₂ (λ (j k : ℕ). drop (at + j * k) s) (sym (get_or-range_with_len 0 n i 0 h ∙ zero-add i)) q)

      go : (r : Bool)
          → MatchBool r (AllWithin (λ (i : ℕ). c.taken (drop (at + i * z) s) ≡ true) (range_with_len 0 n) 0 (length (range_with_len 0 n)))
          ((k : ℕ) × (k < length (range_with_len 0 n)) × HoldsAt (λ (i : ℕ). c.taken (drop (at + i * z) s) ≡ false) (range_with_len 0 n) k)
          → r ≡ all_taken c n (drop at s)
      go true w = sym (each_taken_lem n (drop at s) (λ i h. place i h ∙ w i 0 (omega arith) (omega (arith, length-range_with_len 0 n))))
      go false (k, h, w) = sym (one_fails n (drop at s) k (omega (arith, length-range_with_len 0 n)) (place k (omega (arith, length-range_with_len 0 n)) ∙ w 0))

-- where each is taken whatever its bytes are
pub all_taken_lem : {A : Type 0} (c : Codec A) → ((s : List ℕ) → c.taken s ≡ true) → (n : ℕ) (s : List ℕ) → all_taken c n s ≡ true
unfolding all_taken
all_taken_lem c h zero s = refl
all_taken_lem c h (suc n) s = ap₂ ◌&&◌ (h s) (all_taken_lem c h n (drop c.size s))
