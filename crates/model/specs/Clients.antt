-- A client's part of the line, whichever the client.
use Rattle.std.specs.Prelude.{Bool}
use Rattle.model.specs.declared.Client.{Client}
use Rattle.model.specs.declared.Client.TheVariants.{Verification, Ciphering}
use Rattle.model.specs.declared.CipherClient.{CipherClient}
use Rattle.model.specs.declared.CipherClient.TheVariants.{Han}
use Rattle.model.specs.declared.Counters.{Counters}
use Rattle.model.specs.State.{Association, none, Peer, CipheringPeer, Line}

abbrev pub ciphering : CipherClient → Line → CipheringPeer
ciphering Han l = l.han

abbrev pub with_ciphering : CipherClient → CipheringPeer → Line → Line
with_ciphering Han p l = record { title = l.title; verification = l.verification; han = p; p5 = l.p5 }

abbrev pub peer : Client → Line → Peer
peer Verification l = l.verification
peer (Ciphering c) l = (ciphering c l).peer

abbrev pub with_peer : Client → Peer → Line → Line
with_peer Verification p l = record { title = l.title; verification = p; han = l.han; p5 = l.p5 }
with_peer (Ciphering c) p l = with_ciphering c (record { peer = p; counters = (ciphering c l).counters }) l

-- its link up, or down, and no association
abbrev pub linked : Bool → Peer → Peer
linked up p = record { title = p.title; up = up; association = none }

abbrev pub with_association : Association → Peer → Peer
with_association a p = record { title = p.title; up = p.up; association = a }

-- the client's association becomes this one
abbrev pub associates : Client → Association → Line → Line
associates c a l = with_peer c (with_association a (peer c l)) l

-- the counters of a client that ciphers
abbrev pub counters : CipherClient → Line → Counters
counters c l = (ciphering c l).counters

abbrev pub with_counters : CipherClient → Counters → Line → Line
with_counters c n l = with_ciphering c (record { peer = (ciphering c l).peer; counters = n }) l

-- its association
abbrev pub held : CipherClient → Line → Association
held c l = (ciphering c l).peer.association
