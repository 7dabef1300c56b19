-- The round trips of whole images, and the steps of reading one.
use mathlib.Core.Path.{◌≡◌, refl, sym, ap, ap₂, ◌∙◌}
use mathlib.Core.Bool.{Bool, true, false, cond}
use mathlib.Core.List.{List, [], ◌∷◌, append-nil}
use Prim.Native.Nat.{ℕ, ◌≤◌}
use native.Mathlib.Omega.{arith}
use lib.Dec.{eqb}
use lib.ListN.{length, drop, get_or, replicate, length-drop}
use lib.Seq.{take_all}
use borrow.Author.Tests.{eq-eqb, ne_eqb, eqb-true}
use Rattle.meter.specs.declared.Meter.{Meter}
use Rattle.std.specs.Prelude.{Ok, Err}
use Rattle.image.specs.declared.ImageFault.TheVariants.{WrongLength, WrongVersion, NoImage}
use Rattle.image.specs.Codec.{Got}
use Rattle.image.specs.Layout.{meter_part}
use Rattle.image.specs.Image.{version, image_size, image_of, meter_of, meter_in, blank_meter, Status, whole, status_of, read_by, read_image, ReadBack, WrittenBack}
use Rattle.image.proofs.CodecLaws.{rest_bytes}
use Rattle.image.specs.Sizes.{sizes}
use Rattle.image.proofs.LayoutLaws.{meter_lawful}
use Rattle.image.proofs.HoldableLaws.{meter_holds}

-- the tests of reading, one by one
module _ (s : List ℕ) where
  pub other_length : (length s ≡ image_size → ⊥) → status_of s ≡ Err WrongLength
  unfolding status_of
  other_length h = rw (ne_eqb (length s) image_size h)

  module _ (h : length s ≡ image_size) where
    pub other_version : (get_or s 0 0 ≡ version → ⊥) → status_of s ≡ Err WrongVersion
    unfolding status_of
    other_version v = rw (eq-eqb (length s) image_size h, ne_eqb (get_or s 0 0) version v)

    module _ (v : get_or s 0 0 ≡ version) where
      pub not_taken : meter_part.taken (drop 1 s) ≡ false → status_of s ≡ Err NoImage
      unfolding status_of
      not_taken t = rw (eq-eqb (length s) image_size h, eq-eqb (get_or s 0 0) version v, t)

      pub all_passed : meter_part.taken (drop 1 s) ≡ true → status_of s ≡ whole
      unfolding status_of
      all_passed t = rw (eq-eqb (length s) image_size h, eq-eqb (get_or s 0 0) version v, t)

pub blank_is : blank_meter ≡ meter_part.value (replicate 1765 0)
unfolding blank_meter
blank_is = ap (λ (n : ℕ). meter_part.value (replicate n 0)) sizes.meter_size

pub no_meter : (s : List ℕ) → (length s ≡ image_size → ⊥) → meter_in s ≡ blank_meter
unfolding meter_in
no_meter s h = rw (ne_eqb (length s) image_size h)

pub in_meter : (s : List ℕ) → length s ≡ image_size → meter_in s ≡ meter_of s
unfolding meter_in
in_meter s h = rw (eq-eqb (length s) image_size h)

pub meter_there : (s : List ℕ) {m : Meter} → length s ≡ image_size → Got meter_part s 1 m → m ≡ meter_in s
unfolding meter_of
meter_there s h g = g.is ∙ sym (in_meter s h)

-- what is read: a fault, or the meter in a whole image
pub fault_read : (s : List ℕ) {t : Status} → t ≡ status_of s → read_by t (meter_of s) ≡ read_image s
fault_read s e = ap (λ (t : Status). read_by t (meter_of s)) e

-- What was written is read: every meter that the struct can hold comes back.
module _ (m : Meter) (h : meter_part.Holds m) where
  pub length_image : length (image_of m) ≡ image_size
  unfolding image_of image_size
  length_image = omega (arith, meter_lawful.sized m h)

  pub image_back : read_image (image_of m) ≡ Ok m
  unfolding image_of meter_of
  image_back =
      let b = meter_part.bytes m in
      let t : meter_part.taken b ≡ true = rw (append-nil b) at (meter_lawful.passes m h []) in
      let v : meter_part.value b ≡ m = rw (append-nil b) at (meter_lawful.back m h []) in
      ap (λ (u : Status). read_by u (meter_of (image_of m))) (all_passed (image_of m) length_image refl t) ∙ ap (λ (x : Meter). Ok x) v

pub read_back : ReadBack
read_back m h = image_back m (meter_holds m h)

-- what an image that is read has passed
pub record Passed (s : List ℕ) : Type 0 where
  pub long : length s ≡ image_size
  pub current : get_or s 0 0 ≡ version
  pub taken : meter_part.taken (drop 1 s) ≡ true

pub passed : (s : List ℕ) → status_of s ≡ whole → Passed s
unfolding status_of
passed s e = go (eqb (length s) image_size) (eqb (get_or s 0 0) version) (meter_part.taken (drop 1 s)) refl refl refl e
  where
    go : (a b c : Bool) → eqb (length s) image_size ≡ a → eqb (get_or s 0 0) version ≡ b → meter_part.taken (drop 1 s) ≡ c → cond a (cond b (cond c whole (Err NoImage)) (Err WrongVersion)) (Err WrongLength) ≡ whole → Passed s
    go true true true p q r e = record { long = eqb-true _ _ p; current = eqb-true _ _ q; taken = r }
    go true true false p q r e = cc
    go true false c p q r e = cc
    go false b c p q r e = cc

-- a whole image is read
pub whole_read : (s : List ℕ) {m : Meter} → status_of s ≡ whole → m ≡ meter_in s → Ok m ≡ read_image s
whole_read s e g = ap (λ (x : Meter). Ok x) (g ∙ in_meter s (passed s e).long) ∙ fault_read s (sym e)

-- What was read is written: every image that is read comes back, byte for byte.
pub written_back : WrittenBack
unfolding image_of meter_of image_size
written_back s k e =
    let p = passed s e in
    let n : length (drop 1 s) ≡ meter_part.size = rw (length-drop 1 s) (omega (arith, p.long)) in
    let w : meter_part.bytes (meter_part.value (drop 1 s)) ≡ drop 1 s =
    meter_lawful.again (drop 1 s) (rest_bytes 1 s (λ i. record { fits = k i })) (omega arith) p.taken ∙ take_all meter_part.size (drop 1 s) (omega arith) in
    ap₂ ◌∷◌ (sym p.current) w ∙ front s (omega (arith, p.long))
  where
    front : (s : List ℕ) → 1 ≤ length s → get_or s 0 0 ∷ drop 1 s ≡ s
    front [] h = absurd (omega arith)
    front (x ∷ xs) h = refl
