-- Laws of agreed services: three bytes are agreed byte by byte, and lie within those offered.
use mathlib.Core.Path.{◌≡◌, refl, sym, ap, ap₂, ◌∙◌}
use mathlib.Core.Bool.{true}
use mathlib.Core.List.{List, [], ◌∷◌}
use Prim.Native.Nat.{ℕ, suc, ◌+◌, ◌*◌, ◌/◌, ◌%◌, ◌≤◌}
use native.Mathlib.Nat.{min-eq_left, div-add-mod'}
use native.Mathlib.Omega.{arith}
use lib.Arith.{bin_ind}
use lib.Bits.{bit_and, and_step, and_shr, and_mod, and_le_r}
use lib.ListN.{length, get_or, drop_of_length-le}
use lib.Seq.{drop-cons}
use borrow.Author.Tests.{eq-eqb}
use Rattle.model.specs.declared.Client.{Client}
use Rattle.model.specs.declared.Client.TheVariants.{Verification, Ciphering}
use Rattle.model.specs.declared.CipherClient.TheVariants.{Han}
use Rattle.model.specs.Services.{common, within, offered}

-- a list of three is its three elements
three : (xs : List ℕ) → length xs ≡ 3 → xs ≡ get_or xs 0 0 ∷ get_or xs 1 0 ∷ get_or xs 2 0 ∷ []
three xs h =
    drop-cons xs 0 0 (omega arith)
    ∙ ap (λ (t : List ℕ). get_or xs 0 0 ∷ t)
    (drop-cons xs 1 0 (omega arith)
    ∙ ap (λ (t : List ℕ). get_or xs 1 0 ∷ t)
    (drop-cons xs 2 0 (omega arith) ∙ ap (λ (t : List ℕ). get_or xs 2 0 ∷ t) (drop_of_length-le xs {i = 3} (omega arith))))

-- three bytes are agreed byte by byte
pub common_three : (xs os : List ℕ) → length xs ≡ 3 → length os ≡ 3 → (bit_and (get_or xs 0 0) (get_or os 0 0) ∷ bit_and (get_or xs 1 0) (get_or os 1 0) ∷ bit_and (get_or xs 2 0) (get_or os 2 0) ∷ []) ≡ common xs os
unfolding common
common_three xs os h k = sym (ap₂ common (three xs h) (three os k))

pub length_offered : (client : Client) → length (offered client) ≡ 3
length_offered Verification = refl
length_offered (Ciphering Han) = refl

-- agreed services are as many bytes as those offered
pub length_common : (xs os : List ℕ) → length (common xs os) ≡ length os
unfolding common
length_common xs [] = refl
length_common [] (o ∷ os) = ap suc (length_common [] os)
length_common (x ∷ xs) (o ∷ os) = ap suc (length_common xs os)

-- a mask changes nothing the second time: by induction over the binary digits of the first number
and_twice : (a b : ℕ) → bit_and (bit_and a b) b ≡ bit_and a b
and_twice =
    bin_ind (λ (n : ℕ). (b : ℕ) → bit_and (bit_and n b) b ≡ bit_and n b) (λ b. refl)
    (λ n ih b.
    let upper : bit_and (bit_and n b / 2) (b / 2) ≡ bit_and n b / 2 = rw (and_shr n b 1) (ih (b / 2)) in
    let least : bit_and n b % 2 ≤ b % 2 = rw (and_mod n b 1) (and_le_r (n % 2) (b % 2)) in
    and_step (bit_and n b) b ∙ ap₂ (λ (p q : ℕ). p * 2 + q) upper (min-eq_left least) ∙ div-add-mod' (bit_and n b) 2)

-- what is agreed lies within what is offered
pub common_within : (xs os : List ℕ) → within (common xs os) os ≡ true
unfolding common within
common_within xs [] = refl
common_within [] (o ∷ os) = common_within [] os
common_within (x ∷ xs) (o ∷ os) = rw (eq-eqb _ _ (and_twice x o)) (common_within xs os)
