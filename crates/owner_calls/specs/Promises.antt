-- What the owner's calls on a state buffer promise, for every buffer and whatever is lent. s is what the buffer held, e what it holds
-- afterwards, n the number answered. A refusal that comes before the call is answered where there is one; else the call is made on
-- the meter in the buffer, and number and buffer are those of the model's step: where it is accepted, every byte of the buffer is
-- that of the one image of what the meter then holds (`image_for`). Else the buffer is as it was.
use Rattle.std.specs.Prelude.{◌≡◌, true, List, [], ℕ, length}
use Rattle.model.specs.State.{Model, new_meter}
use Rattle.model.specs.Soundness.{sound}
use Rattle.model.specs.Calls.{OwnerCall, owner, Protocol, obeyed}
use Rattle.model.specs.Demand3.{Handed, Promised}
use Rattle.meter.specs.declared.Meter.{Meter}
use Rattle.meter.specs.declared.Changed.{Changed}
use Rattle.meter.specs.View.{view}
use Rattle.meter.specs.Canonical.{canonical}
use Rattle.image.specs.Image.{image_size, image_of, meter_of, whole, status_of}
use Rattle.owner_calls.specs.Refusals.{refusal_by, new_refusal}
use Rattle.owner_calls.specs.Lending.{LentOwner, fault, owner_of}

-- the one image of what a meter holds: zeros wherever it holds nothing
abbrev pub image_for : Model → List ℕ
image_for m = image_of (canonical m)

-- what a call hands back: its number, how many bytes go out, the meter in the buffer, and the reply room before and after
abbrev pub handed_back : (n k : ℕ) → (e before after : List ℕ) → Handed Meter view
handed_back n k e l o = record { refusal = n; count = k; meter = meter_of e; before = l; after = o }

-- a buffer that was written: just this is held, in its one image, and that is what the next call reads
pub record Stores (m : Model) (e : List ℕ) : Type 0 where
  pub bytes : e ≡ image_for m
  pub status : status_of e ≡ whole
  pub holds : view (meter_of e) ≡ m

-- A new meter.

-- one with this name and these titles
pub record Made (device title verification han : List ℕ) (e : List ℕ) (n : ℕ) : Type 0 where
  pub number : n ≡ 0
  pub stores : Stores (new_meter device title verification han) e

pub record NewCalled (device title verification han : List ℕ) (s e : List ℕ) (n : ℕ) : Type 0 where
  pub refused : (new_refusal s device title verification han ≡ 0 → ⊥) → n ≡ new_refusal s device title verification han
  pub called : new_refusal s device title verification han ≡ 0 → Made device title verification han e n
  pub kept : (n ≡ 0 → ⊥) → e ≡ s

-- Calls on the meter in the buffer.

-- the call is made: the model's promise, whatever protocol frames go by; where it is accepted, every byte; an image is there again
pub record Owns (c : OwnerCall) (s e : List ℕ) (n : ℕ) : Type 0 where
  pub promised : (p : Protocol) → Promised Meter view p (owner c) (meter_of s) (handed_back n 0 e [] [])
  pub bytes : n ≡ 0 → e ≡ image_for (obeyed c (view (meter_of s)))
  pub again : status_of e ≡ whole

-- the refusal that comes before the call, or 0
abbrev pub refusal_for : LentOwner → List ℕ → ℕ
refusal_for c s = refusal_by (status_of s) (sound (view (meter_of s))) (fault c)

pub record OwnerCalled (c : LentOwner) (s e : List ℕ) (n : ℕ) : Type 0 where
  pub refused : (refusal_for c s ≡ 0 → ⊥) → n ≡ refusal_for c s
  pub called : refusal_for c s ≡ 0 → Owns (owner_of c) s e n
  pub kept : (n ≡ 0 → ⊥) → e ≡ s

-- the end of a call, in a buffer of the right length: the meter handed back is stored where the call is accepted
pub record Ends (r : Changed) (s e : List ℕ) (n : ℕ) : Type 0 where
  pub number : n ≡ r.refusal
  pub stored : length s ≡ image_size → sound (view r.meter) ≡ true → n ≡ 0 → Stores (view r.meter) e
  pub kept : (n ≡ 0 → ⊥) → e ≡ s
