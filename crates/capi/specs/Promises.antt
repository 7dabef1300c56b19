-- What the frame call of the static library promises, for every state buffer and whatever is lent; the owner's calls promise what
-- owner_calls' do. s is what the state buffer held, e what it holds afterwards; the reply room held l and holds o afterwards, k bytes
-- of it go out, and n is the number answered. What is refused before the call is answered where there is such; else the call is made
-- on the meter in the buffer, and number, reply and buffer are those of the model's step: unless its refusal leaves the meter
-- unchanged (`keeping`), every byte of the buffer is that of the one image of what the meter then holds (`image_for`). Else the buffer
-- is as it was.
use Rattle.std.specs.Prelude.{◌≡◌, true, false, List, ℕ, length}
use Rattle.model.specs.Periods.{listed}
use Rattle.model.specs.Soundness.{sound}
use Rattle.model.specs.Calls.{Lent, lent_refusal, frame, step}
use Rattle.model.specs.Demand3.{Promised}
use Rattle.meter.specs.declared.Meter.{Meter}
use Rattle.meter.specs.View.{view}
use Rattle.protocol.specs.Decide.{p2}
use Rattle.protocol.specs.Outcomes.{keeping}
use Rattle.ending.specs.declared.Received.{Received}
use Rattle.image.specs.Image.{image_size, meter_of, whole, status_of}
use Rattle.owner_calls.specs.Promises.{image_for, handed_back, Stores}
use Rattle.capi.specs.Refusals.{frame_refusal}

-- the call is made: the model's promise; every byte of the buffer; an image is there again
pub record Receives (a : Lent) (s e l o : List ℕ) (k n : ℕ) : Type 0 where
  pub promised : Promised Meter view p2 (frame a) (meter_of s) (handed_back n k e l o)
  pub bytes : listed n keeping ≡ false → e ≡ image_for (step p2 (frame a) (view (meter_of s))).next
  pub again : status_of e ≡ whole

-- the end of a call, in a buffer of the right length
pub record FrameEnds (r : Received) (s e : List ℕ) (n : ℕ) : Type 0 where
  pub number : n ≡ r.refusal
  pub stored : length s ≡ image_size → sound (view r.meter) ≡ true → listed n keeping ≡ false → Stores (view r.meter) e
  pub kept : listed n keeping ≡ true → e ≡ s

-- refused before the call: nothing goes out, nothing changes
pub record Silent (s e l o : List ℕ) (k : ℕ) : Type 0 where
  pub state : e ≡ s
  pub count : k ≡ 0
  pub room : o ≡ l

pub record FrameCalled (a : Lent) (s e l o : List ℕ) (k n : ℕ) : Type 0 where
  pub refused : (frame_refusal (status_of s) (lent_refusal a) ≡ 0 → ⊥) → (n ≡ frame_refusal (status_of s) (lent_refusal a)) × Silent s e l o k
  pub called : frame_refusal (status_of s) (lent_refusal a) ≡ 0 → Receives a s e l o k n
  pub kept : listed n keeping ≡ true → e ≡ s
