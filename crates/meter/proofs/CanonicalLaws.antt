-- A meter whose halves are cleared; and specs/Canonical's statement, proved.
use mathlib.Core.Path.{◌≡◌, sym, ap, ◌∙◌}
use mathlib.Core.List.{List}
use Prim.Native.Nat.{ℕ}
use Rattle.model.specs.State.{new_meter}
use Rattle.model.specs.Soundness.{sound}
use Rattle.model.proofs.StaySound.{new_meter_sound}
use Rattle.line.specs.declared.LineState.{LineState}
use Rattle.line.specs.View.{line_of, new_line}
use Rattle.line.specs.Canonical.{cleared_line}
use Rattle.line.proofs.ClearLaws.{line_same, line_canonical}
use Rattle.body.specs.declared.BodyState.{BodyState}
use Rattle.body.specs.View.{body_of, new_body}
use Rattle.body.specs.Canonical.{ClearsBody}
use Rattle.meter.specs.declared.Meter.{Meter}
use Rattle.meter.specs.View.{view}
use Rattle.meter.specs.Canonical.{cleared_meter, canonical, Cleared, Fresh, SameOnceCleared}
use Rattle.meter.proofs.MeterLaws.{sound_body}

pub meter_clear : (m : Meter) (l : LineState) (b : BodyState) → l ≡ cleared_line m.line → ClearsBody m.body b → Cleared m (record { line = l; body = b })
unfolding view cleared_meter canonical
meter_clear m l b e p =
    let line = ap line_of e ∙ line_same m.line in
    record {
      is = λ i. record { line = e i; body = p.is i };
      same = λ i. record { line = line i; body = p.same i };
      canonical = λ s. λ i. record { line = (e ∙ line_canonical m.line) i; body = p.canonical (sound_body m s) i };
    }

-- a new meter, cleared
pub fresh : (d t v h : List ℕ) {l : LineState} {b : BodyState} {r : Meter} → line_of l ≡ new_line t v h → body_of b ≡ new_body d → Cleared (record { line = l; body = b }) r → Fresh (new_meter d t v h) r
unfolding view new_meter
fresh d t v h {l} {b} e p k =
    let made : view (record { line = l; body = b }) ≡ new_meter d t v h = λ i. record { line = e i; body = p i } in
    record {
      is = k.canonical (ap sound made ∙ new_meter_sound d t v h) ∙ ap canonical made;
      holds = k.same ∙ made;
    }

pub same_once_cleared : SameOnceCleared
same_once_cleared m₁ m₂ r₁ r₂ s e c₁ c₂ = c₁.canonical s ∙ ap canonical e ∙ sym (c₂.canonical (sym (ap sound e) ∙ s))
