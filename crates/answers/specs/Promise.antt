-- What the answer to a request promises: the model's Turn, in the reply buffer and in what becomes of the body of the code.
use Rattle.std.specs.Prelude.{◌≡◌, Bool, List, ℕ, ◌+◌, ◌≤◌}
use Rattle.wire.specs.Wrote.{Wrote}
use Rattle.model.specs.Limits.{longest_sent, text_room}
use Rattle.model.specs.declared.Client.{Client}
use Rattle.model.specs.Objects.{Turn, Inquiry, ask, go_on}
use Rattle.cosem.specs.declared.Reading.{Reading}
use Rattle.cosem.specs.declared.Reading.TheVariants.{Asks, GoesOn}
use Rattle.cosem.specs.Requests.{requested}
use Rattle.body.specs.declared.BodyState.{BodyState}
use Rattle.body.specs.Change.{changed_by}
use Rattle.body.specs.View.{body_of}
use Rattle.answers.specs.declared.Turned.{Turned}
use Rattle.answers.specs.declared.transfer.BlockRefusal.{BlockRefusal}
use Rattle.answers.specs.declared.transfer.BlockRefusal.TheVariants.{Ended, NoneRunning, WrongNumber}

-- what a client asked with this APDU, as it was read, selective access and block transfer being agreed or not
abbrev pub inquiry_in : Client → (selective blocks : Bool) → List ℕ → Reading → Inquiry
inquiry_in c selective blocks s (Asks q) = ask (requested c selective blocks s q)
inquiry_in c selective blocks s (GoesOn invoke number) = go_on invoke number

-- the result code by which a request for a block is refused: "ended meanwhile, code 15; else none running, code 16; wrong block number,
-- code 19"
abbrev pub block_code : BlockRefusal → ℕ
block_code Ended = 15
block_code NoneRunning = 16
block_code WrongNumber = 19

-- its number, its bytes from place at on and nothing else of the buffer, no longer than a text may be, and what it makes of the body b
pub record Turns (t : Turn) (b : BodyState) (l : List ℕ) (at : ℕ) (m : List ℕ) (r : Turned) : Type 0 where
  pub refusal : r.refusal ≡ t.refusal
  pub wrote : Wrote l at m r.next t.bytes
  pub short : r.next ≤ at + text_room longest_sent
  pub body : body_of (changed_by r.change b) ≡ t.body
