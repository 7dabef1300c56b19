-- "The same second twice gives two rows" (document 01; demand 2, "equal times included"), said of what two ticks hand back by
-- their promise, whatever rows the meter had.
use Rattle.std.specs.Prelude.{◌≡◌, true, ◌∷◌, ◌+◌, ◌-◌, ◌%◌, take}
use Rattle.model.specs.declared.Clock.{Clock}
use Rattle.model.specs.Limits.{max_rows}
use Rattle.model.specs.Clocks.{valid_clock}
use Rattle.model.specs.Periods.{capture_due}
use Rattle.model.specs.State.{Entry}
use Rattle.model.specs.Soundness.{sound}
use Rattle.model.specs.Calls.{tick}
use Rattle.model.specs.Archive.{rows_of, due_row}
use Rattle.meter.specs.declared.Meter.{Meter}
use Rattle.meter.specs.declared.Changed.{Changed}
use Rattle.meter.specs.View.{view}
use Rattle.meter.specs.Promise.{Owned}

-- the row of a second tick: the next record number after the first one's, the same clock, the same cells
abbrev pub next_row : Entry → Entry
next_row r = record { number = (r.number + 1) % 65536; clock = r.clock; cells = r.cells }

-- both ticks are accepted, and both rows stand in front of the older ones, of which at most thirteen are kept
pub record BothStand (t : Clock) (m : Meter) (r₁ r₂ : Changed) : Type 0 where
  pub first : r₁.refusal ≡ 0
  pub second : r₂.refusal ≡ 0
  pub rows :
      rows_of (view r₂.meter)
      ≡ next_row (due_row t (view m).body) ∷ due_row t (view m).body ∷ take (max_rows - 2) (rows_of (view m))
  pub number : (view r₂.meter).body.number ≡ (next_row (due_row t (view m).body)).number

abbrev pub SameSecond : Type 0
SameSecond =
    (t : Clock) (m : Meter) (r₁ r₂ : Changed)
    → sound (view m) ≡ true
    → valid_clock t ≡ true
    → capture_due (view m).body.period t ≡ true
    → Owned (tick t) m r₁
    → Owned (tick t) r₁.meter r₂
    → BothStand t m r₁ r₂
