-- What the frame call promises, of any meter, sound or not, of every frame and of all that is lent.
use Rattle.std.specs.Prelude.{◌≡◌, true, List, ℕ}
use Rattle.model.specs.Periods.{listed}
use Rattle.model.specs.Calls.{Lent, frame}
use Rattle.model.specs.Demand3.{Promised}
use Rattle.meter.specs.declared.Meter.{Meter}
use Rattle.meter.specs.View.{view}
use Rattle.protocol.specs.Decide.{p2}
use Rattle.protocol.specs.Outcomes.{keeping}
use Rattle.ending.specs.declared.Received.{Received}
use Rattle.ending.specs.Handed.{handed, LeavesNothing}

-- what is lent to a call: of the reply room its length
abbrev pub lent : (room : ℕ) → (guk ak challenge received : List ℕ) → Lent
lent n g k c f = record { room = n; guk = g; ak = k; challenge = c; received = f }

-- the frame call: the model's promise at this protocol; where the meter is unchanged, the very meter comes back; and nothing is
-- left of an association that ended, or of challenges that were answered. For 0, 7, 12 and 13 all else that the view does not show is
-- free: the places above a count, the fields of an association that was over before, the challenges of one that was no longer pending,
-- and what a transfer does not use
pub record Answered (a : Lent) (m : Meter) (l o : List ℕ) (r : Received) : Type 0 where
  pub promised : Promised Meter view p2 (frame a) m (handed r l o)
  pub kept : listed r.refusal keeping ≡ true → r.meter ≡ m
  pub wiped : LeavesNothing m r.meter
