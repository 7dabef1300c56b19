-- The one way in which the fields of a line hold what the model's Line has: zeros wherever an association holds nothing. The
-- `cleared` of a line has zeros put there; `line_with` makes the line that holds just this.
use Rattle.std.specs.Prelude.{List, ℕ, replicate}
use Rattle.model.specs.State.{Association, none, pending, associated, Peer, CipheringPeer, Line}
use Rattle.line.specs.declared.Phase.{Phase}
use Rattle.line.specs.declared.Phase.TheVariants.{Idle, Pending, Associated}
use Rattle.line.specs.declared.Party.{Party}
use Rattle.line.specs.declared.CipherParty.{CipherParty}
use Rattle.line.specs.declared.LineState.{LineState}

-- Cleared.

-- n bytes that an association holds while it stands, pending or associated: its services, its key
abbrev pub while_standing : Phase → (n : ℕ) → List ℕ → List ℕ
while_standing Idle n xs = replicate n 0
while_standing Pending n xs = xs
while_standing Associated n xs = xs

-- n bytes that it holds while it is pending: a challenge
abbrev pub while_pending : Phase → (n : ℕ) → List ℕ → List ℕ
while_pending Idle n xs = replicate n 0
while_pending Pending n xs = xs
while_pending Associated n xs = replicate n 0

unfoldable pub cleared_party : Party → Party
cleared_party p = record { title = p.title; up = p.up; phase = p.phase; agreed = while_standing p.phase 3 p.agreed }

unfoldable pub cleared_cipher_party : CipherParty → CipherParty
cleared_cipher_party p =
    record {
      party = cleared_party p.party;
      key = while_standing p.party.phase 16 p.key;
      client = while_pending p.party.phase 8 p.client;
      meter = while_pending p.party.phase 8 p.meter;
      counters = p.counters;
    }

unfoldable pub cleared_line : LineState → LineState
cleared_line l =
    record { title = l.title; verification = cleared_party l.verification; han = cleared_cipher_party l.han; p5 = l.p5 }

-- Made from what is to be held.

abbrev pub phase_of : Association → Phase
phase_of none = Idle
phase_of (pending a k c s) = Pending
phase_of (associated a k) = Associated

-- What an association holds; zeros where it holds no such bytes.

abbrev pub agreed_in : Association → List ℕ
agreed_in none = replicate 3 0
agreed_in (pending a k c s) = a
agreed_in (associated a k) = a

abbrev pub key_in : Association → List ℕ
key_in none = replicate 16 0
key_in (pending a k c s) = k
key_in (associated a k) = k

-- the client's challenge, and the meter's
abbrev pub client_challenge : Association → List ℕ
client_challenge none = replicate 8 0
client_challenge (pending a k c s) = c
client_challenge (associated a k) = replicate 8 0

abbrev pub meter_challenge : Association → List ℕ
meter_challenge none = replicate 8 0
meter_challenge (pending a k c s) = s
meter_challenge (associated a k) = replicate 8 0

-- a client's key and challenges have no place here
unfoldable pub party_with : Peer → Party
party_with p = record { title = p.title; up = p.up; phase = phase_of p.association; agreed = agreed_in p.association }

unfoldable pub cipher_party_with : CipheringPeer → CipherParty
cipher_party_with p =
    record {
      party = party_with p.peer;
      key = key_in p.peer.association;
      client = client_challenge p.peer.association;
      meter = meter_challenge p.peer.association;
      counters = p.counters;
    }

unfoldable pub line_with : Line → LineState
line_with l = record { title = l.title; verification = party_with l.verification; han = cipher_party_with l.han; p5 = l.p5 }
