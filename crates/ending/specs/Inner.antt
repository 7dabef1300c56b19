-- What the functions within the frame call promise each other. No promise of the public call rests on the reader's belief in
-- these: `p2::receive` promises `Answered`, which names none of them.
use Rattle.std.specs.Prelude.{◌≡◌, true, List, ℕ}
use Rattle.model.specs.declared.Client.{Client}
use Rattle.model.specs.declared.CipherClient.{CipherClient}
use Rattle.model.specs.Periods.{listed}
use Rattle.model.specs.State.{Line}
use Rattle.model.specs.Soundness.{sound}
use Rattle.model.specs.Calls.{decided}
use Rattle.model.specs.Demand3.{Gave}
use Rattle.hdlc.specs.declared.Head.{Head}
use Rattle.cosem.specs.declared.Exception.{Exception}
use Rattle.cosem.specs.Tags.{exception_bytes}
use Rattle.material.specs.declared.ReadyKeys.{ReadyKeys}
use Rattle.material.specs.Material.{keys_of}
use Rattle.line.specs.declared.LineState.{LineState}
use Rattle.line.specs.View.{line_of}
use Rattle.body.specs.declared.BodyState.{BodyState}
use Rattle.body.specs.declared.Change.{Change}
use Rattle.body.specs.Change.{changed_by}
use Rattle.meter.specs.declared.Meter.{Meter}
use Rattle.meter.specs.View.{view}
use Rattle.protocol.specs.declared.Secrets.{Secrets}
use Rattle.protocol.specs.Clients.{peer, lent_keys, dedicated_keys}
use Rattle.protocol.specs.Rulings.{Test, refusal_of, Ruling, says, apdu, decision}
use Rattle.protocol.specs.Decide.{p2}
use Rattle.protocol.specs.Outcomes.{keeping}
use Rattle.replies.specs.Room.{HasRoom}
use Rattle.ending.specs.declared.Received.{Received}
use Rattle.ending.specs.declared.Told.{Told}
use Rattle.ending.specs.declared.Heard.{Heard}
use Rattle.ending.specs.Handed.{handed, LeavesNothing}

-- the structs that are handed back, and a meter, by their parts
abbrev pub received : (refusal count : ℕ) → Meter → Received
received n k m = record { refusal = n; count = k; meter = m }

abbrev pub told : (refusal count : ℕ) → LineState → Told
told n k l = record { refusal = n; count = k; line = l }

abbrev pub heard_of : (refusal count : ℕ) → LineState → Change → Heard
heard_of n k l c = record { refusal = n; count = k; line = l; change = c }

abbrev pub meter_with : LineState → BodyState → Meter
meter_with l b = record { line = l; body = b }

-- what comes back of what was heard, on a meter: its line becomes that line, and its body is changed
abbrev pub carried_out : Meter → Heard → Received
carried_out m h = received h.refusal h.count (meter_with h.line (changed_by h.change m.body))

-- what a function within the call may take for granted: a sound meter, and a buffer with reply room
abbrev pub Ready : Meter → (out : List ℕ) → Type 0
Ready m out = (sound (view m) ≡ true) × HasRoom out

-- what a ruling of the protocol comes to, as the three parts of `Answered`
pub record Follows (x : Ruling) (m : Meter) (l o : List ℕ) (r : Received) : Type 0 where
  pub gave : Gave Meter view (decided p2 (decision x) (view m)) (handed r l o)
  pub kept : listed r.refusal keeping ≡ true → r.meter ≡ m
  pub wiped : LeavesNothing m r.meter

-- the same of a function that leaves it to its caller to carry out what was heard
abbrev pub Hears : Ruling → Meter → (before after : List ℕ) → Heard → Type 0
Hears x m l o h = Follows x m l o (carried_out m h)

-- the same of a function that has the line alone: whatever body stands beside it, it is as it was
abbrev pub Tells : Ruling → LineState → (before after : List ℕ) → Told → Type 0
Tells x line l o r =
    (b : BodyState) → Follows x (meter_with line b) l o (received r.refusal r.count (meter_with r.line b))

-- the same under keys that were made ready before: where they are those of these secrets
abbrev pub TellsWith : ReadyKeys → Secrets → Ruling → LineState → (before after : List ℕ) → Told → Type 0
TellsWith k a x line l o r = keys_of k ≡ lent_keys a → Tells x line l o r

-- of whatever secrets they are
abbrev pub TellsUnder : ReadyKeys → (Secrets → Ruling) → LineState → (before after : List ℕ) → Told → Type 0
TellsUnder k x line l o r = (a : Secrets) → TellsWith k a (x a) line l o r

-- and of requests, where they are those of the association
abbrev pub HearsUnder : CipherClient → ReadyKeys → (Secrets → Ruling) → Meter → (before after : List ℕ) → Heard → Type 0
HearsUnder c k x m l o h = (a : Secrets) → keys_of k ≡ dedicated_keys a.ak c (line_of m.line) → Hears (x a) m l o h

-- both lines have the same associations
abbrev pub SameAssociations : Line → Line → Type 0
SameAssociations l n = (c : Client) → (peer c n).association ≡ (peer c l).association

-- an exception: whatever the line was before, with the same associations, and whichever test it is by which refusal 12 is given
abbrev pub Excepts : Exception → Head → LineState → (before after : List ℕ) → Told → Type 0
Excepts e h line l o r =
    (before : LineState) (t : Test)
    → refusal_of t ≡ 12
    → SameAssociations (line_of before) (line_of line)
    → Tells (says t (apdu h (exception_bytes e)) (line_of line)) before l o r
