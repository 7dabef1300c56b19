-- The one meter of the code for what a meter holds. The view of a meter says nothing of the places above a count, of the fields of
-- an association that has ended, and of those that a transfer does not use: here they are zeros, so that what is held fixes the meter whole.
use Rattle.std.specs.Prelude.{◌≡◌, true}
use Rattle.model.specs.State.{Model}
use Rattle.model.specs.Soundness.{sound}
use Rattle.line.specs.Canonical.{cleared_line, line_with}
use Rattle.body.specs.Canonical.{cleared_body, body_with}
use Rattle.meter.specs.declared.Meter.{Meter}
use Rattle.meter.specs.View.{view}

-- the meter with zeros wherever it holds nothing
unfoldable pub cleared_meter : Meter → Meter
cleared_meter m = record { line = cleared_line m.line; body = cleared_body m.body }

-- the one meter of the code that holds just this, with zeros wherever it holds nothing
unfoldable pub canonical : Model → Meter
canonical m = record { line = line_with m.line; body = body_with m.body }

-- what clearing promises of any meter: it holds the same; and of a sound one, that it is the one meter that does
pub record Cleared (m r : Meter) : Type 0 where
  pub is : r ≡ cleared_meter m
  pub same : view r ≡ view m
  pub canonical : sound (view m) ≡ true → r ≡ canonical (view m)

-- what making a new meter promises: it is the one meter that holds just this, and so every byte of it is fixed
pub record Fresh (n : Model) (r : Meter) : Type 0 where
  pub is : r ≡ canonical n
  pub holds : view r ≡ n

-- Two sound meters that hold the same are the same once cleared. Proved in proofs/CanonicalLaws.
abbrev pub SameOnceCleared : Type 0
SameOnceCleared = (m₁ m₂ r₁ r₂ : Meter) → sound (view m₁) ≡ true → view m₁ ≡ view m₂ → Cleared m₁ r₁ → Cleared m₂ r₂ → r₁ ≡ r₂
