-- How gathered differences decide whether two strings are the same.
use mathlib.Core.Path.{◌≡◌, refl, sym, ap, ap₂, ◌∙◌}
use mathlib.Core.Bool.{Bool, true, false, ◌&&◌, and-true, and_assoc, and-eq-true_iff}
use mathlib.Core.List.{List, [], ◌∷◌}
use Prim.Native.Nat.{ℕ, suc}
use native.Mathlib.Omega.{arith}
use borrow.Author.Tests.{eqb-true, eq-eqb}
use lib.Dec.{eqb}
use lib.Bits.{bit_xor, bit_or, or_add_and, and_le_l, and_le_r, or_zero_l, xor_self}
use lib.ListN.{length}
use Rattle.gf2.proofs.XorLaws.{xor_eq}
use Rattle.wire.specs.Reading.{same_bytes}

either_way : (p q : Bool) → (p ≡ true → q ≡ true) → (q ≡ true → p ≡ true) → p ≡ q
either_way true q f g = sym (f refl)
either_way false true f g = g refl
either_way false false f g = refl

-- no difference is gathered exactly where none was and the bytes are equal
gathered : (d x y : ℕ) → eqb (bit_or d (bit_xor x y)) 0 ≡ eqb d 0 && eqb x y
gathered d x y =
    either_way (eqb (bit_or d (bit_xor x y)) 0) (eqb d 0 && eqb x y)
    (λ e.
    let z : bit_or d (bit_xor x y) ≡ 0 = eqb-true _ _ e in
    let n : d ≡ 0 = omega (arith, or_add_and d (bit_xor x y), and_le_r d (bit_xor x y)) in
    let m : bit_xor x y ≡ 0 = omega (arith, or_add_and d (bit_xor x y), and_le_l d (bit_xor x y)) in
    rw (eq-eqb d 0 n, eq-eqb x y (xor_eq x y m)))
    (λ e.
    let p = (and-eq-true_iff (eqb d 0) (eqb x y)).0 e in
    eq-eqb (bit_or d (bit_xor x y)) 0 (ap₂ (λ (a b : ℕ). bit_or a (bit_xor b y)) (eqb-true d 0 p.0) (eqb-true x y p.1) ∙ or_zero_l (bit_xor y y) ∙ xor_self y))

-- one byte more of each, with d gathered before them
pub turn : (d x y : ℕ) (p q r t : List ℕ) (b : Bool) → p ≡ x ∷ r → q ≡ y ∷ t → length p ≡ length q → eqb d 0 && same_bytes p q ≡ b
    → (length r ≡ length t) × (eqb (bit_or d (bit_xor x y)) 0 && same_bytes r t ≡ b)
unfolding same_bytes
turn d x y p q r t b ep eq h e =
    let k : suc (length r) ≡ suc (length t) = sym (ap length ep) ∙ h ∙ ap length eq in (
      omega arith,
      ap (λ (z : Bool). z && same_bytes r t) (gathered d x y)
          ∙ and_assoc (eqb d 0) (eqb x y) (same_bytes r t)
          ∙ ap₂ (λ (l m : List ℕ). eqb d 0 && same_bytes l m) (sym ep) (sym eq)
          ∙ e,
    )

-- where nothing is to come what was gathered decides
pub done : (d : ℕ) (p q : List ℕ) (b : Bool) → length p ≡ 0 → length p ≡ length q → eqb d 0 && same_bytes p q ≡ b → eqb d 0 ≡ b
unfolding same_bytes
done d [] [] b h k e = sym (and-true (eqb d 0)) ∙ e
done d [] (y ∷ ys) b h k e = absurd (omega arith)
done d (x ∷ xs) q b h k e = absurd (omega arith)
