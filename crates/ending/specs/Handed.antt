-- What a call hands back, and what it leaves of an association that is over. The frame call promises both (`Answered`).
use Rattle.std.specs.Prelude.{◌≡◌, true, false, List, ℕ}
use Rattle.model.specs.declared.CipherClient.{CipherClient}
use Rattle.model.specs.declared.Client.{Client}
use Rattle.model.specs.State.{Line}
use Rattle.model.specs.Soundness.{is_none}
use Rattle.model.specs.Demand3.{Handed}
use Rattle.line.specs.declared.LineState.{LineState}
use Rattle.line.specs.View.{cipher_of, line_of}
use Rattle.meter.specs.declared.Meter.{Meter}
use Rattle.meter.specs.View.{view}
use Rattle.protocol.specs.Clients.{peer, held, is_pending, is_associated}
use Rattle.line.specs.Left.{NoChallenges, Wiped}
use Rattle.ending.specs.declared.Received.{Received}

-- what is handed back, with what the reply room held before and holds after
abbrev pub handed : Received → (before after : List ℕ) → Handed Meter view
handed r l o = record { refusal = r.refusal; count = r.count; meter = r.meter; before = l; after = o }

-- What an association leaves that holds less than before. A client that had one and has none left zeros for its agreed services, its
-- key and its challenges; one that was pending and is associated left zeros for its challenges. The papers know no such bytes, and
-- the view does not show them.
pub record Wipes (before after : Line) (next : LineState) : Type 0 where
  pub ended : (c : Client) → is_none (peer c before).association ≡ false → is_none (peer c after).association ≡ true → Wiped c next
  pub proven : (c : CipherClient) → is_pending (held c before) ≡ true → is_associated (held c after) ≡ true → NoChallenges (cipher_of c next)

abbrev pub LeavesNothing : Meter → Meter → Type 0
LeavesNothing m n = Wipes (line_of m.line) (line_of n.line) n.line
