-- What a name means, by the place where it stands among the own names and among the registers.
use mathlib.Core.Path.{◌≡◌, refl, sym, ap, ◌∙◌}
use mathlib.Core.Bool.{Bool, true, false, cond}
use mathlib.Core.List.{List, [], ◌∷◌, map}
use Prim.Native.Nat.{ℕ, zero, suc, ◌+◌, ◌≤◌, ◌<◌}
use native.Mathlib.Omega.{arith}
use lib.ListN.{length, take, get_or}
use lib.Seq.{get_or-take}
use lib.Dec.{lit<}
use Rattle.wire.specs.Reading.{same_bytes}
use Rattle.wire.proofs.ReadingLaws.{by_order}
use Rattle.model.specs.declared.Name.{Name}
use Rattle.model.specs.declared.CipherClient.TheVariants.{Han}
use Rattle.model.specs.declared.Register.{Register}
use Rattle.model.specs.Names.{same_name, seat, given, bearing, blank_name}
use Rattle.model.specs.Objects.{Own, device_object, own_objects, challenge_of, own_names, register_object, Meaning, known, among_own, among_registers}
use Rattle.model.proofs.NameLaws.{same_name_lem, given_bears}

-- Own objects.

abbrev own_name : Own → Name
own_name o = o.name

module _ (n : Name) (e : Meaning) where
  own_here : (d : Own) (os : List Own) → seat n (map own_name os) < length os → among_own n os e ≡ known (get_or os (seat n (map own_name os)) d).object
  own_here d [] h = absurd (omega arith)
  own_here d (o ∷ os) h = go (same_name o.name n) (own_here d os) h
    where
      go : (b : Bool) → (seat n (map own_name os) < length os → among_own n os e ≡ known (get_or os (seat n (map own_name os)) d).object)
          → cond b 0 (suc (seat n (map own_name os))) < suc (length os)
          → cond b (known o.object) (among_own n os e) ≡ known (get_or (o ∷ os) (cond b 0 (suc (seat n (map own_name os)))) d).object
      go true f k = refl
      go false f k = f (omega arith)

  own_none : (os : List Own) → length os ≤ seat n (map own_name os) → among_own n os e ≡ e
  own_none [] h = refl
  own_none (o ∷ os) h = go (same_name o.name n) (own_none os) h
    where
      go : (b : Bool) → (length os ≤ seat n (map own_name os) → among_own n os e ≡ e) → suc (length os) ≤ cond b 0 (suc (seat n (map own_name os))) → cond b (known o.object) (among_own n os e) ≡ e
      go true f k = absurd (omega arith)
      go false f k = f (omega arith)

  -- the name stands behind the challenge's, which is the first
  pub own_at : (j : ℕ) → j + 1 ≡ seat n own_names → j < 6 → among_own n own_objects e ≡ known (get_or own_objects j device_object).object
  own_at j q h = go (same_name (challenge_of Han) n) q
    where
      go : (b : Bool) → j + 1 ≡ cond b 0 (suc (seat n (map own_name own_objects))) → among_own n own_objects e ≡ known (get_or own_objects j device_object).object
      go true k = absurd (omega arith)
      go false k =
          let s : seat n (map own_name own_objects) ≡ j = omega arith in
          let w : seat n (map own_name own_objects) < 6 = omega arith in
          own_here device_object own_objects w ∙ ap (λ (x : ℕ). known (get_or own_objects x device_object).object) s

  challenge_apart : challenge_of Han ≡ n → among_own n own_objects e ≡ e
  unfolding same_bytes
  challenge_apart p = rw (← p)

  -- a name that no readable object bears
  pub own_not : (i : ℕ) → i ≡ seat n own_names → (1 ≤ i → i ≤ 6 → ⊥) → among_own n own_objects e ≡ e
  own_not i q h = go (same_name (challenge_of Han) n) refl q
    where
      far : (s : ℕ) → i ≡ suc s → 6 ≤ s
      far s k = by_order 6 s (λ p. p) (λ p. absurd (h (omega arith) (omega arith)))

      go : (b : Bool) → same_name (challenge_of Han) n ≡ b → i ≡ cond b 0 (suc (seat n (map own_name own_objects))) → among_own n own_objects e ≡ e
      go true t k = challenge_apart (same_name_lem (challenge_of Han) n t)
      go false t k = own_none own_objects (far (seat n (map own_name own_objects)) k)

over_six : (i : ℕ) → suc (suc (suc (suc (suc (suc (suc i)))))) ≤ 6 → ⊥
over_six i h = omega arith

-- what the last arm of a match on 1 to 6 tells
pub none_of_six : (i : ℕ) → (i ≡ 1 → ⊥) → (i ≡ 2 → ⊥) → (i ≡ 3 → ⊥) → (i ≡ 4 → ⊥) → (i ≡ 5 → ⊥) → (i ≡ 6 → ⊥) → 1 ≤ i → i ≤ 6 → ⊥
none_of_six zero n₁ n₂ n₃ n₄ n₅ n₆ h k = omega (arith, h)
none_of_six (suc zero) n₁ n₂ n₃ n₄ n₅ n₆ h k = n₁ refl
none_of_six (suc (suc zero)) n₁ n₂ n₃ n₄ n₅ n₆ h k = n₂ refl
none_of_six (suc (suc (suc zero))) n₁ n₂ n₃ n₄ n₅ n₆ h k = n₃ refl
none_of_six (suc (suc (suc (suc zero)))) n₁ n₂ n₃ n₄ n₅ n₆ h k = n₄ refl
none_of_six (suc (suc (suc (suc (suc zero))))) n₁ n₂ n₃ n₄ n₅ n₆ h k = n₅ refl
none_of_six (suc (suc (suc (suc (suc (suc zero)))))) n₁ n₂ n₃ n₄ n₅ n₆ h k = n₆ refl
none_of_six (suc (suc (suc (suc (suc (suc (suc i))))))) n₁ n₂ n₃ n₄ n₅ n₆ h k = over_six i k

-- the fifth own name is the device name's
pub device_is : (l : List Name) (n : Name) → take 7 l ≡ own_names → same_name (get_or l 4 blank_name) n ≡ same_name device_object.name n
device_is l n e = ap (λ (m : Name). same_name m n) (sym (get_or-take 7 l 4 blank_name (lit< tt)) ∙ ap (λ (ns : List Name). get_or ns 4 blank_name) e)

-- Registers.

-- a register bears the name by which it is found
pub register_here : (n : Name) (rs : List Register) (r : Register) → given n rs ≡ true → bearing n rs ≡ r
    → among_registers n rs ≡ known (register_object (record { name = n; readable = r.readable; scaler = r.scaler; unit = r.unit; value = r.value }))
register_here n rs r g b =
    let m : r.name ≡ n = ap (λ (x : Register). x.name) (sym b) ∙ given_bears n rs g in
    let w : r ≡ record { name = n; readable = r.readable; scaler = r.scaler; unit = r.unit; value = r.value } = (λ j. record { name = m j; readable = r.readable; scaler = r.scaler; unit = r.unit; value = r.value }) in
    rw g (ap (λ (x : Register). known (register_object x)) (b ∙ w))
