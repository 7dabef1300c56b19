-- A line that is cleared: that the same is held, and that it is the one line that holds it.
use mathlib.Core.Path.{◌≡◌, refl}
use mathlib.Core.List.{List, []}
use Prim.Native.Nat.{ℕ}
use Rattle.line.specs.declared.Phase.{Phase}
use Rattle.line.specs.declared.Phase.TheVariants.{Idle, Pending, Associated}
use Rattle.line.specs.declared.Party.{Party}
use Rattle.line.specs.declared.CipherParty.{CipherParty}
use Rattle.line.specs.declared.LineState.{LineState}
use Rattle.line.specs.View.{peer_of, ciphering_of, line_of}
use Rattle.line.specs.Canonical.{cleared_party, cleared_cipher_party, cleared_line, party_with, cipher_party_with, line_with}

-- A client of any phase holds the same once cleared, and is the one that holds it.

party_clear : (p : Party) (k c s : List ℕ) → (peer_of (cleared_party p) k c s ≡ peer_of p k c s) × (cleared_party p ≡ party_with (peer_of p k c s))
unfolding cleared_party party_with
party_clear p k c s = by p.phase
  where
    at : Phase → Party
    at f = record { title = p.title; up = p.up; phase = f; agreed = p.agreed }

    by : (f : Phase) → (peer_of (cleared_party (at f)) k c s ≡ peer_of (at f) k c s) × (cleared_party (at f) ≡ party_with (peer_of (at f) k c s))
    by Idle = (refl, refl)
    by Pending = (refl, refl)
    by Associated = (refl, refl)

cipher_clear : (h : CipherParty) → (ciphering_of (cleared_cipher_party h) ≡ ciphering_of h) × (cleared_cipher_party h ≡ cipher_party_with (ciphering_of h))
unfolding cleared_party cleared_cipher_party party_with cipher_party_with
cipher_clear h = by h.party.phase
  where
    at : Phase → CipherParty
    at f =
        record {
          party = record { title = h.party.title; up = h.party.up; phase = f; agreed = h.party.agreed };
          key = h.key;
          client = h.client;
          meter = h.meter;
          counters = h.counters;
        }

    by : (f : Phase) → (ciphering_of (cleared_cipher_party (at f)) ≡ ciphering_of (at f)) × (cleared_cipher_party (at f) ≡ cipher_party_with (ciphering_of (at f)))
    by Idle = (refl, refl)
    by Pending = (refl, refl)
    by Associated = (refl, refl)

-- The line.

pub line_same : (l : LineState) → line_of (cleared_line l) ≡ line_of l
unfolding line_of cleared_line
line_same l i =
    record { title = l.title; verification = (party_clear l.verification [] [] []).0 i; han = (cipher_clear l.han).0 i; p5 = l.p5 }

pub line_canonical : (l : LineState) → cleared_line l ≡ line_with (line_of l)
unfolding line_of cleared_line line_with
line_canonical l i =
    record { title = l.title; verification = (party_clear l.verification [] [] []).1 i; han = (cipher_clear l.han).1 i; p5 = l.p5 }
