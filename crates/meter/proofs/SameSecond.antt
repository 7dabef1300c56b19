-- Two ticks of the same second give two rows with consecutive record numbers: specs/SameSecond, proved.
use mathlib.Core.Path.{◌≡◌, ◌∙◌, ap}
use mathlib.Core.Bool.{true}
use mathlib.Core.List.{List, ◌∷◌}
use Prim.Native.Nat.{ℕ, zero, suc, ◌-◌, ◌≤◌}
use native.Mathlib.Omega.{arith}
use lib.ListN.{take}
use lib.Seq.{take-take}
use lib.Dec.{lit≤}
use Rattle.model.specs.declared.Clock.{Clock}
use Rattle.model.specs.Limits.{max_rows}
use Rattle.model.specs.Clocks.{valid_clock}
use Rattle.model.specs.Periods.{capture_due}
use Rattle.model.specs.State.{Model, with_body, with_clock}
use Rattle.model.specs.Soundness.{sound}
use Rattle.model.specs.Calls.{owner, tick, Outcome, done, Protocol, captured, ticked, act, step}
use Rattle.model.specs.Archive.{rows_of}
use Rattle.model.proofs.StaySound.{stays_sound}
use Rattle.meter.specs.View.{view}
use Rattle.meter.specs.SameSecond.{SameSecond}
use Rattle.meter.proofs.OwnedLaws.{silent, silent_keeps, owned_refusal, owned_meter}

-- the model after a due tick
unfoldable pub after_due : Clock → Model → Model
after_due t m = with_body (with_clock t (captured t m.body)) m

pub due_step : (p : Protocol) (t : Clock) (m : Model) → sound m ≡ true → valid_clock t ≡ true → capture_due m.body.period t ≡ true → step p (owner (tick t)) m ≡ done (after_due t m)
unfolding step act ticked after_due
due_step p t m s v d = rw (s, v, d)

-- of k at most, two more stand in front of all but the last two of the others
pub two_more : {A : Type 0} (k : ℕ) (x y : A) (zs : List A) → 2 ≤ k → take k (x ∷ take k (y ∷ zs)) ≡ x ∷ y ∷ take (k - 2) zs
two_more zero x y zs h = absurd (omega arith)
two_more (suc zero) x y zs h = absurd (omega arith)
two_more (suc (suc k)) x y zs h =
    let e : k ≡ suc (suc k) - 2 = omega arith in
    let l : k ≤ suc k = omega arith in
    ap (λ (ws : List _). x ∷ y ∷ ws) (take-take k (suc k) zs l ∙ ap (λ (j : ℕ). take j zs) e)

pub two_rows : 2 ≤ max_rows
unfolding max_rows
two_rows = lit≤ tt

pub same_second : SameSecond
unfolding captured after_due
same_second t m r₁ r₂ s v d o₁ o₂ =
    let step₁ = due_step silent t (view m) s v d in
    let next₁ : view r₁.meter ≡ after_due t (view m) = owned_meter (tick t) m r₁ o₁ ∙ ap (λ (o : Outcome). o.next) step₁ in
    let s₁ : sound (view r₁.meter) ≡ true = ap sound (owned_meter (tick t) m r₁ o₁) ∙ stays_sound silent silent_keeps (owner (tick t)) (view m) s in
    let d₁ : capture_due (view r₁.meter).body.period t ≡ true = ap (λ (n : Model). capture_due n.body.period t) next₁ ∙ d in
    let step₂ = due_step silent t (view r₁.meter) s₁ v d₁ in
    let next₂ : view r₂.meter ≡ after_due t (after_due t (view m)) =
    owned_meter (tick t) r₁.meter r₂ o₂ ∙ ap (λ (o : Outcome). o.next) step₂ ∙ ap (after_due t) next₁
    in
    record {
      first = owned_refusal (tick t) m r₁ o₁ ∙ ap (λ (o : Outcome). o.refusal) step₁;
      second = owned_refusal (tick t) r₁.meter r₂ o₂ ∙ ap (λ (o : Outcome). o.refusal) step₂;
      rows = ap rows_of next₂ ∙ two_more max_rows _ _ (rows_of (view m)) two_rows;
      number = ap (λ (n : Model). n.body.number) next₂;
    }
