-- What an owner's call promises of any meter, sound or not.
use Rattle.std.specs.Prelude.{◌≡◌, [], ℕ}
use Rattle.model.specs.declared.Client.{Client}
use Rattle.model.specs.Calls.{OwnerCall, owner, power_up, Protocol}
use Rattle.model.specs.Demand3.{Handed, Promised}
use Rattle.line.specs.Left.{Wiped}
use Rattle.meter.specs.declared.Meter.{Meter}
use Rattle.meter.specs.declared.Changed.{Changed}
use Rattle.meter.specs.View.{view}

abbrev pub changed : ℕ → Meter → Changed
changed n m = record { refusal = n; meter = m }

-- what it hands back: no reply room is lent, and nothing goes out
abbrev pub handed : Changed → Handed Meter view
handed r = record { refusal = r.refusal; count = 0; meter = r.meter; before = []; after = [] }

-- the model's promise, whatever protocol frames go by; and where the call is refused, the very meter comes back. Where it is
-- accepted, what the view does not show is free: the places above a count, the fields of an association that is over or no longer
-- pending, and those that a transfer does not use (`cleared` makes them zeros)
pub record Owned (c : OwnerCall) (m : Meter) (r : Changed) : Type 0 where
  pub promised : (p : Protocol) → Promised Meter view p (owner c) m (handed r)
  pub kept : (r.refusal ≡ 0 → ⊥) → r.meter ≡ m

-- power-up promises more: nothing is left of any association
pub record PoweredUp (m : Meter) (r : Changed) : Type 0 where
  pub owned : Owned power_up m r
  pub wiped : r.refusal ≡ 0 → (c : Client) → Wiped c r.meter.line
