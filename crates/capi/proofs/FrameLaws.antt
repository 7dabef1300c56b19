-- The ends of a frame call of the library: refused before it is made, or made on the meter in the buffer.
use mathlib.Core.Path.{◌≡◌, refl, sym, subst, ap, ◌∙◌}
use mathlib.Core.Bool.{Bool, true, false, cond, true≢false}
use mathlib.Core.List.{List, []}
use Prim.Native.Nat.{ℕ}
use lib.Dec.{eqb}
use borrow.Author.Tests.{ne_eqb}
use Rattle.model.specs.Periods.{listed}
use Rattle.model.specs.State.{Model}
use Rattle.model.specs.Soundness.{sound}
use Rattle.model.specs.Calls.{Lent, lent_refusal, frame, Outcome, step}
use Rattle.model.specs.Demand3.{Promised}
use Rattle.meter.specs.declared.Meter.{Meter}
use Rattle.meter.specs.View.{view}
use Rattle.protocol.specs.Decide.{p2}
use Rattle.protocol.specs.Outcomes.{keeping}
use Rattle.protocol.proofs.Claim.{p2_stays_sound}
use Rattle.protocol.proofs.Outcomes.{row_lent}
use Rattle.ending.specs.declared.Received.{Received}
use Rattle.ending.specs.Handed.{handed as received}
use Rattle.p2.specs.Promise.{Answered, lent}
use Rattle.p2.proofs.LentLaws.{lent_told}
use Rattle.std.specs.Prelude.{Err}
use Rattle.meter.specs.declared.Meter.{Meter}
use Rattle.image.specs.declared.ImageFault.{ImageFault}
use Rattle.image.specs.Image.{Status, whole, meter_of, meter_in, status_of, fault_number, image_refusal}
use Rattle.image.proofs.ImageLaws.{in_meter, passed as whole-image}
use Rattle.owner_calls.specs.Promises.{image_for, Stores}
use Rattle.owner_calls.proofs.CallLaws.{fault_some}
use Rattle.capi.specs.Refusals.{frame_refusal}
use Rattle.capi.specs.Promises.{Receives, FrameCalled, FrameEnds}

-- What is refused before the call.

-- by what is lent
refusal_lent : (t : Status) (x : ℕ) → (x ≡ 0 → ⊥) → x ≡ frame_refusal t x
refusal_lent t x h = rw (ne_eqb x 0 h) refl

-- The call.

-- a frame call that changes the meter was made on a sound one
changed_sound : (a : Lent) (m : Model) → listed (step p2 (frame a) m).refusal keeping ≡ false → sound m ≡ true
changed_sound a m =
    row_lent a m (λ (o : Outcome). listed o.refusal keeping ≡ false → sound m ≡ true)
    (λ e. absurd (true≢false e))
    (λ e. absurd (true≢false e))
    (λ e. absurd (true≢false e))
    (λ _ y _. y)

heard : {a : Lent} {s e l o : List ℕ} {n : ℕ} {r : Received} → Answered a (meter_of s) l o r → status_of s ≡ whole → FrameEnds r s e n → Receives a s e l o r.count n
heard {a} {s} {e} {l} {o} {n} {r} v w d =
    record {
      promised = record { refusal = number; count = given.count; meter = (go (listed n keeping) refl).0; room = given.room };
      bytes = λ q. (there q).bytes ∙ ap image_for given.meter;
      again = (go (listed n keeping) refl).1;
    }
  where
    given : Promised Meter view p2 (frame a) (meter_of s) (received r l o)
    given = v.promised

    number : n ≡ (step p2 (frame a) (view (meter_of s))).refusal
    number = d.number ∙ given.refusal

    there : listed n keeping ≡ false → Stores (view r.meter) e
    there q =
        let y = p2_stays_sound (frame a) (view (meter_of s)) (changed_sound a (view (meter_of s)) (ap (λ (k : ℕ). listed k keeping) (sym number) ∙ q)) in
        d.stored (whole-image s w).long (ap sound given.meter ∙ y) q

    go : (b : Bool) → listed n keeping ≡ b → (view (meter_of e) ≡ (step p2 (frame a) (view (meter_of s))).next) × (status_of e ≡ whole)
    go true q =
        let k = d.kept q in
        let same = v.kept (ap (λ (k : ℕ). listed k keeping) (sym d.number) ∙ q) in
        (ap (λ (x : List ℕ). view (meter_of x)) k ∙ ap view (sym same) ∙ given.meter, ap status_of k ∙ w)
    go false q = let t = there q in (t.holds ∙ given.meter, t.status)

module _ (a : Lent) {s l : List ℕ} {x : ℕ} (i : lent_refusal a ≡ x) where
  frame_refused : {n : ℕ} → n ≡ frame_refusal (status_of s) x → (n ≡ 0 → ⊥) → FrameCalled a s s l l 0 n
  frame_refused {n} e h =
      let told : n ≡ frame_refusal (status_of s) (lent_refusal a) = e ∙ ap (frame_refusal (status_of s)) (sym i) in
      record {
        refused = λ _. (told, record { state = refl; count = refl; room = refl });
        called = λ z. absurd (h (told ∙ z));
        kept = λ _. refl;
      }

  pub refused_lent : (x ≡ 0 → ⊥) → FrameCalled a s s l l 0 x
  refused_lent h = frame_refused (refusal_lent (status_of s) x h) h

  pub refused_image : x ≡ 0 → (f : ImageFault) → Err f ≡ status_of s → FrameCalled a s s l l 0 (fault_number f)
  refused_image z f e =
      frame_refused (ap image_refusal e ∙ ap (λ (k : ℕ). cond (eqb k 0) (image_refusal (status_of s)) k) (sym z)) (fault_some f)

  pub frame_called : {m : Meter} {r : Received} {f o : List ℕ} {k : ℕ} → x ≡ 0 → status_of s ≡ whole → m ≡ meter_in s → Answered a m l o r → FrameEnds r s f k → FrameCalled a s f l o r.count k
  frame_called {m} {r = r} {o = o} z w j v d =
      let y : frame_refusal (status_of s) (lent_refusal a) ≡ 0 = rw (i, z, w) refl in
      record {
        refused = λ h. absurd (h y);
        called = λ _. heard (subst (λ (m : Meter). Answered a m l o r) (j ∙ in_meter s (whole-image s w).long) v) w d;
        kept = d.kept;
      }

-- The same by what is lent, whatever the frame is.
module _ (n : ℕ) (g k c f : List ℕ) {s l : List ℕ} {x : ℕ} (i : x ≡ lent_refusal (lent n g k c [])) where
  pub refused_before : (x ≡ 0 → ⊥) → FrameCalled (lent n g k c f) s s l l 0 x
  refused_before = refused_lent (lent n g k c f) (lent_told n g k c f i)

  pub refused_by_image : x ≡ 0 → {t : ImageFault} {m : ℕ} → Err t ≡ status_of s → m ≡ fault_number t → FrameCalled (lent n g k c f) s s l l 0 m
  refused_by_image z {t} e d = subst (λ (y : ℕ). FrameCalled (lent n g k c f) s s l l 0 y) (sym d) (refused_image (lent n g k c f) (lent_told n g k c f i) z t e)

-- What is lent was taken, and the buffer holds a whole image.
pub called_on_image : {a : Lent} {s l : List ℕ} {m : Meter} {r : Received} {e o : List ℕ} {y : ℕ} → lent_refusal a ≡ 0 → status_of s ≡ whole → m ≡ meter_in s → Answered a m l o r → FrameEnds r s e y → FrameCalled a s e l o r.count y
called_on_image {a} i = frame_called a i refl
