-- Demand 3 of the functions as they run: the frame call and all owner's calls, each by its own `ensures`, in any list of calls
-- in which each gets the meter that the last one handed back.
use Rattle.std.specs.Prelude.{List, [], ◌∷◌, map, ℕ}
use Rattle.model.specs.Calls.{Lent, OwnerCall, Call, frame, owner}
use Rattle.model.specs.Demand3.{Chosen, Alike, AlikeCalls, SameOutcomes, Handed, seen}
use Rattle.meter.specs.declared.Meter.{Meter}
use Rattle.meter.specs.declared.Changed.{Changed}
use Rattle.meter.specs.View.{view}
use Rattle.meter.specs.Promise.{Owned, handed as handed_by_owner}
use Rattle.protocol.specs.Decide.{p2}
use Rattle.ending.specs.declared.Received.{Received}
use Rattle.ending.specs.Handed.{handed}
use Rattle.p2.specs.Promise.{Answered}

-- what the function behind a call ensures, on this meter, of what it hands back
pub data Ensured (m : Meter) : Call → Handed Meter view → Type 0 where
  receives : (a : Lent) (before after : List ℕ) (r : Received) → Answered a m before after r → Ensured m (frame a) (handed r before after)
  owns : (c : OwnerCall) (r : Changed) → Owned c m r → Ensured m (owner c) (handed_by_owner r)

-- a list of calls is made: "each call gets the meter that the last one handed back"
pub data Runs : Meter → List Call → List (Handed Meter view) → Type 0 where
  none : {m : Meter} → Runs m [] []
  more :
      {m : Meter} {c : Call} {cs : List Call} {h : Handed Meter view} {hs : List (Handed Meter view)}
      → Ensured m c h
      → Runs h.meter cs hs
      → Runs m (c ∷ cs) (h ∷ hs)

-- Whoever is not granted a read of a register learns nothing of its value: two meters that are alike but for the chosen
-- registers, the same list of calls, whatever the two runs hand back. The model's `Demand3` has the customer's words beside
-- each premise; only the runs differ.
abbrev pub RunsDemand3 : Type 0
RunsDemand3 =
    (ch : Chosen) (m₁ m₂ : Meter) (cs₁ cs₂ : List Call) (hs₁ hs₂ : List (Handed Meter view))
    → Alike ch (view m₁) (view m₂)
    → AlikeCalls ch cs₁ cs₂
    → Runs m₁ cs₁ hs₁
    → Runs m₂ cs₂ hs₂
    → SameOutcomes p2 ch cs₁ (view m₁) (map (seen Meter view) hs₁) (map (seen Meter view) hs₂)
