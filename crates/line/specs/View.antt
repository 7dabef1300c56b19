-- What the line of the code holds, as the model's Line: what an ended association left in its fields is no part of it.
use Rattle.std.specs.Prelude.{List, [], ℕ}
use Rattle.model.specs.declared.CipherClient.{CipherClient}
use Rattle.model.specs.declared.CipherClient.TheVariants.{Han}
use Rattle.model.specs.State.{Association, none, pending, associated, Peer, CipheringPeer, Line, new_meter}
use Rattle.line.specs.declared.Phase.{Phase}
use Rattle.line.specs.declared.Phase.TheVariants.{Idle, Pending, Associated}
use Rattle.line.specs.declared.Party.{Party}
use Rattle.line.specs.declared.CipherParty.{CipherParty}
use Rattle.line.specs.declared.LineState.{LineState}

-- an association by its phase: the agreed services, and for a ciphering client its key and the two challenges
abbrev pub association_of : Phase → (agreed key client meter : List ℕ) → Association
association_of Idle a k c s = none
association_of Pending a k c s = pending a k c s
association_of Associated a k c s = associated a k

abbrev pub peer_of : Party → (key client meter : List ℕ) → Peer
peer_of p k c s = record { title = p.title; up = p.up; association = association_of p.phase p.agreed k c s }

abbrev pub ciphering_of : CipherParty → CipheringPeer
ciphering_of p = record { peer = peer_of p.party p.key p.client p.meter; counters = p.counters }

-- the part of the line that a client that ciphers has
abbrev pub cipher_of : CipherClient → LineState → CipherParty
cipher_of Han l = l.han

unfoldable pub line_of : LineState → Line
line_of l = record { title = l.title; verification = peer_of l.verification [] [] []; han = ciphering_of l.han; p5 = l.p5 }

-- the line of a new meter
abbrev pub new_line : (title verification han : List ℕ) → Line
new_line t v h = (new_meter [] t v h).line
