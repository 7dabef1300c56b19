-- The ends of an owner's call on a state buffer: refused before it is made, or made on the meter in the buffer.
use mathlib.Core.Path.{◌≡◌, refl, sym, subst, ap, ◌∙◌}
use mathlib.Core.Bool.{Bool, true, false, cond, ◌&&◌, and-eq-true_iff}
use mathlib.Core.List.{List, []}
use Prim.Native.Nat.{ℕ, zero, suc}
use native.Mathlib.Omega.{arith}
use lib.Dec.{eqb}
use lib.ListN.{length, replicate, length-replicate}
use borrow.Author.Tests.{eq-eqb, ne_eqb, eqb-true, eqb-false}
use Rattle.wire.specs.Reading.{filled}
use Rattle.wire.proofs.ReadingLaws.{filled_whole}
use Rattle.model.specs.State.{Model, new_meter}
use Rattle.model.specs.Soundness.{sound}
use Rattle.model.specs.Calls.{OwnerCall, owner, answer, Protocol, own_refusal, obeyed, act, step}
use Rattle.model.proofs.ListLaws.{passed}
use Rattle.model.proofs.StaySound.{stays_sound}
use Rattle.meter.specs.declared.Meter.{Meter}
use Rattle.meter.specs.declared.Changed.{Changed}
use Rattle.meter.specs.View.{view}
use Rattle.meter.specs.Promise.{Owned}
use Rattle.meter.specs.Canonical.{Cleared, Fresh}
use Rattle.std.specs.Prelude.{Result, Ok, Err}
use Rattle.image.specs.declared.ImageFault.{ImageFault}
use Rattle.image.specs.declared.ImageFault.TheVariants.{WrongLength, WrongVersion, NoImage}
use Rattle.image.specs.Image.{Status, whole, image_size, image_of, meter_of, meter_in, read_by, status_of, fault_number, image_refusal, not_sound}
use Rattle.image.proofs.ImageLaws.{in_meter, passed as whole-image}
use Rattle.image_write.specs.declared.WrongBuffer.{WrongBuffer}
use Rattle.image_write.specs.Writing.{Writes}
use Rattle.image_write.proofs.WritesLaws.{answered}
use Rattle.owner_calls.specs.declared.refusals.ArgumentFault.{ArgumentFault}
use Rattle.owner_calls.specs.declared.refusals.ArgumentFault.TheVariants.{ClockNotValid, RegistersBad, NoSuchRegister, ColumnsBad, WrongArgument}
use Rattle.owner_calls.specs.declared.refusals.Refusal.{Refusal}
use Rattle.owner_calls.specs.Refusals.{MeterFor, number, argument_number, wrong_argument, fault_of, fault_refusal, refusal_by, new_refusal, new_sized, sized}
use Rattle.owner_calls.specs.Lending.{LentOwner, fault, owner_of}
use Rattle.owner_calls.specs.Promises.{image_for, Stores, NewCalled, Owns, refusal_for, OwnerCalled, Ends}

-- The buffer.

-- a meter that is read is that of a whole image
pub read_whole : (t : Status) {m r : Meter} → read_by t m ≡ Ok r → (t ≡ whole) × (m ≡ r)
read_whole (Ok u) e = (refl, cc)
read_whole (Err f) e = cc

-- what is stored in a buffer of the right length, where the one meter that holds just this is written
written : {n : Model} {r : Meter} {s e : List ℕ} {w : Result (Unit {0}) WrongBuffer} → Fresh n r → Writes r s e w → length s ≡ image_size → Stores n e
written {r = r} {e = e} f w long =
    let d = answered w long in
    let read = read_whole (status_of e) (w.back d.0) in
    record { bytes = d.1 ∙ ap image_of f.is; status = read.0; holds = ap view read.1 ∙ f.holds }

-- where a sound meter was cleared and written
pub stored : {m r : Meter} {s e : List ℕ} {w : Result (Unit {0}) WrongBuffer} → Cleared m r → Writes r s e w → length s ≡ image_size → sound (view m) ≡ true → Stores (view m) e
stored k w long y = written (record { is = k.canonical y; holds = k.same }) w long

-- A refusal before the call.

-- there is none: the image is whole, and the arguments are taken

pub fault_some : (f : ImageFault) → fault_number f ≡ 0 → ⊥
fault_some WrongLength e = omega arith
fault_some WrongVersion e = omega arith
fault_some NoImage e = omega arith

pub image_whole : (t : Status) → image_refusal t ≡ 0 → t ≡ whole
image_whole (Ok u) e = refl
image_whole (Err f) e = absurd (fault_some f e)

fault_none : (y : Bool) (k : ℕ) → fault_refusal y k ≡ 0 → k ≡ 0
fault_none y k = go (eqb k 0) y refl
  where
    go : (b y : Bool) → eqb k 0 ≡ b → cond b 0 (cond y k not_sound) ≡ 0 → k ≡ 0
    go true y p e = eqb-true k 0 p
    go false true p e = e
    go false false p e = absurd (omega arith)

refusal_none : (t : Status) (y : Bool) (k : ℕ) → refusal_by t y k ≡ 0 → (t ≡ whole) × (k ≡ 0)
refusal_none (Ok u) y k e = (refl, fault_none y k e)
refusal_none (Err WrongLength) y k e = absurd (omega arith)
refusal_none (Err WrongVersion) y k e = absurd (omega arith)
refusal_none (Err NoImage) y k e = absurd (omega arith)

-- The meter in a whole image, as it is read.

argument_some : (f : ArgumentFault) → argument_number f ≡ 0 → ⊥
argument_some ClockNotValid e = omega arith
argument_some RegistersBad e = omega arith
argument_some NoSuchRegister e = omega arith
argument_some ColumnsBad e = omega arith
argument_some WrongArgument e = omega arith

refused_some : (y : Bool) (f : ArgumentFault) → cond y (argument_number f) not_sound ≡ 0 → ⊥
refused_some true f e = argument_some f e
refused_some false f e = absurd (omega arith)

module _ (s : List ℕ) {m : Meter} (w : status_of s ≡ whole) (e : m ≡ meter_in s) where
  held_is : m ≡ meter_of s
  held_is = e ∙ in_meter s (whole-image s w).long

  -- for a call whose argument is taken, or that has none
  pub meter_taken : {k : ℕ} → k ≡ 0 → MeterFor s k (Ok m)
  meter_taken z = (rw (w, z) refl, held_is)

  -- for a call whose argument has a fault: the meter is tested first
  pub argument_refused : {b y : Bool} (f : ArgumentFault) (r : Refusal) → b ≡ false → y ≡ sound (view m) → number r ≡ cond y (argument_number f) not_sound → MeterFor s (fault_of b (argument_number f)) (Err r)
  argument_refused {b} {y} f r p q z =
      (z ∙ rw (w, p, sym held_is, sym q, ne_eqb (argument_number f) 0 (argument_some f)) refl, λ o. refused_some y f (sym z ∙ o))

-- Calls on the meter in the buffer.

-- some protocol: what an owner's call comes to does not depend on it
abbrev any : Protocol
any = record { decide = λ l a. answer (record { refusal = 0; sent = []; line = l }); seal = λ l w bytes. bytes }

-- a call that is accepted was made on a sound meter; the meter after it is as the call leaves it, and sound
obeyed_sound : (c : OwnerCall) (m : Model) → (step any (owner c) m).refusal ≡ 0 → ((step any (owner c) m).next ≡ obeyed c m) × (sound (obeyed c m) ≡ true)
unfolding step act
obeyed_sound c m = go (sound m) (eqb (own_refusal c m) 0) refl refl
  where
    go : (y b : Bool) → sound m ≡ y → eqb (own_refusal c m) 0 ≡ b → (step any (owner c) m).refusal ≡ 0 → ((step any (owner c) m).next ≡ obeyed c m) × (sound (obeyed c m) ≡ true)
    go true true q z e =
        let next : (step any (owner c) m).next ≡ obeyed c m = rw (q, z) refl in
        (next, ap sound (sym next) ∙ stays_sound any (λ l a y. y) (owner c) m q)
    go true false q z e = absurd (eqb-false (own_refusal c m) 0 z (rw (q, z) at e))
    go false b q z e = absurd (omega (arith, rw q at e))

-- the call that was made on the meter in the buffer
made : {c : OwnerCall} {s e : List ℕ} {n : ℕ} {r : Changed} → Owned c (meter_of s) r → status_of s ≡ whole → Ends r s e n → Owns c s e n
made {c} {s} {e} {n} {r} o w d =
    record {
      promised = λ p. record { refusal = number p; count = (o.promised p).count; meter = holds.0 ∙ (o.promised p).meter; room = (o.promised p).room };
      bytes = λ z. (there z).bytes ∙ ap image_for (obeys z).0;
      again = holds.1;
    }
  where
    number : (p : Protocol) → n ≡ (step p (owner c) (view (meter_of s))).refusal
    number p = d.number ∙ (o.promised p).refusal

    obeys : n ≡ 0 → (view r.meter ≡ obeyed c (view (meter_of s))) × (sound (view r.meter) ≡ true)
    obeys z =
        let y = obeyed_sound c (view (meter_of s)) (sym (number any) ∙ z) in
        let q = (o.promised any).meter ∙ y.0 in
        (q, ap sound q ∙ y.1)

    there : n ≡ 0 → Stores (view r.meter) e
    there z = d.stored (whole-image s w).long (obeys z).1 z

    go : (k : ℕ) → n ≡ k → (view (meter_of e) ≡ view r.meter) × (status_of e ≡ whole)
    go zero q = let t = there q in (t.holds, t.status)
    go (suc k) q =
        let some : n ≡ 0 → ⊥ = λ z. omega arith in
        let kept = d.kept some in
        (ap (λ (x : List ℕ). view (meter_of x)) kept ∙ ap view (sym (o.kept (λ z. some (d.number ∙ z)))), ap status_of kept ∙ w)

    holds : (view (meter_of e) ≡ view r.meter) × (status_of e ≡ whole)
    holds = go n refl

module _ (s : List ℕ) (c : LentOwner) {k : ℕ} (g : k ≡ fault c) where
  before : {n : ℕ} → n ≡ refusal_by (status_of s) (sound (view (meter_of s))) k → n ≡ refusal_for c s
  before e = e ∙ ap (refusal_by (status_of s) (sound (view (meter_of s)))) g

  pub owner_called : {m : Meter} {r : Changed} {f : List ℕ} {q : ℕ} → MeterFor s k (Ok m) → (fault c ≡ 0 → Owned (owner_of c) m r) → Ends r s f q → OwnerCalled c s f q
  owner_called {r = r} i o d =
      let y : refusal_for c s ≡ 0 = sym (before refl) ∙ i.0 in
      let w = refusal_none (status_of s) (sound (view (meter_of s))) (fault c) y in
      record {
        refused = λ h. absurd (h y);
        called = λ _. made (subst (λ (m : Meter). Owned (owner_of c) m r) i.1 (o w.1)) w.0 d;
        kept = d.kept;
      }

-- Lent bytes of the right length, as arrays.

pub taken_whole : (w k : ℕ) (s : List ℕ) → eqb k 0 ≡ false → fault_of (sized w s) k ≡ 0 → filled s 0 (replicate w 0) ≡ s
taken_whole w k s some h = filled_whole s (replicate w 0) (eqb-true (length s) w (passed (sized w s) k some h) ∙ sym (length-replicate w 0))

-- A new meter.

-- the lengths of what it is given
record Sized (d t v h : List ℕ) : Type 0 where
  pub device : length d ≡ 16
  pub title : length t ≡ 8
  pub verification : length v ≡ 8
  pub han : length h ≡ 8

module _ (d t v h : List ℕ) where
  new_sized_lem : fault_of (new_sized d t v h) wrong_argument ≡ 0 → Sized d t v h
  new_sized_lem e =
      let a = (and-eq-true_iff (eqb (length d) 16) (eqb (length t) 8 && (eqb (length v) 8 && eqb (length h) 8))).0 (passed (new_sized d t v h) wrong_argument refl e) in
      let b = (and-eq-true_iff (eqb (length t) 8) (eqb (length v) 8 && eqb (length h) 8)).0 a.1 in
      let c = (and-eq-true_iff (eqb (length v) 8) (eqb (length h) 8)).0 b.1 in
      record { device = eqb-true _ _ a.0; title = eqb-true _ _ b.0; verification = eqb-true _ _ c.0; han = eqb-true _ _ c.1 }

  pub new_given : {d' t' v' h' : List ℕ} → fault_of (new_sized d t v h) wrong_argument ≡ 0 → d' ≡ filled d 0 (replicate 16 0) → t' ≡ filled t 0 (replicate 8 0) → v' ≡ filled v 0 (replicate 8 0) → h' ≡ filled h 0 (replicate 8 0) → new_meter d' t' v' h' ≡ new_meter d t v h
  new_given z a b c e =
      let s = new_sized_lem z in
      rw (a, b, c, e, filled_whole d (replicate 16 0) s.device, filled_whole t (replicate 8 0) s.title, filled_whole v (replicate 8 0) s.verification, filled_whole h (replicate 8 0) s.han)

module _ {d t v h : List ℕ} {s : List ℕ} where
  new_refused : {n : ℕ} → n ≡ new_refusal s d t v h → (n ≡ 0 → ⊥) → NewCalled d t v h s s n
  new_refused e k = record { refused = λ _. e; called = λ z. absurd (k (e ∙ z)); kept = λ _. refl }

  pub new_short : (length s ≡ image_size → ⊥) → NewCalled d t v h s s 101
  new_short k = new_refused (rw (ne_eqb (length s) image_size k)) (λ e. omega arith)

  module _ (long : length s ≡ image_size) where
    pub new_wrong : {n : ℕ} → n ≡ fault_of (new_sized d t v h) wrong_argument → (n ≡ 0 → ⊥) → NewCalled d t v h s s n
    new_wrong e k = new_refused (rw (eq-eqb (length s) image_size long) e) k

    pub new_called : {n : Model} {r : Meter} {e : List ℕ} {w : Result (Unit {0}) WrongBuffer} → fault_of (new_sized d t v h) wrong_argument ≡ 0 → n ≡ new_meter d t v h → Fresh n r → Writes r s e w → NewCalled d t v h s e 0
    new_called {e = e} z new f w =
        record {
          refused = λ k. absurd (k (rw (eq-eqb (length s) image_size long) z));
          called = λ _. record { number = refl; stores = subst (λ (m : Model). Stores m e) new (written f w long) };
          kept = λ k. absurd (k refl);
        }
