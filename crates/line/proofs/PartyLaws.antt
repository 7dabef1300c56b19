-- A client of the model's line, by its party in the line of the code.
use mathlib.Core.Path.{◌≡◌, refl}
use mathlib.Core.List.{List}
use Prim.Native.Nat.{ℕ}
use Rattle.model.specs.declared.Client.{Client}
use Rattle.model.specs.declared.CipherClient.{CipherClient}
use Rattle.model.specs.declared.Client.TheVariants.{Verification, Ciphering}
use Rattle.model.specs.declared.CipherClient.TheVariants.{Han}
use Rattle.model.specs.Clients.{held, peer}
use Rattle.line.specs.declared.Phase.{Phase}
use Rattle.line.specs.declared.Phase.TheVariants.{Idle, Pending, Associated}
use Rattle.line.specs.declared.Party.{Party}
use Rattle.line.specs.declared.CipherParty.{CipherParty}
use Rattle.line.specs.declared.LineState.{LineState}
use Rattle.line.specs.Canonical.{while_standing, while_pending, agreed_in, key_in, client_challenge, meter_challenge}
use Rattle.line.specs.Parties.{party_of, party_key, party_client, party_meter}
use Rattle.line.specs.View.{association_of, cipher_of, line_of, peer_of}

-- the client, by a party that is its own
pub peer_of_lem : (c : Client) (l : LineState) (p : Party) → p ≡ party_of c l → peer_of p (party_key c l) (party_client c l) (party_meter c l) ≡ peer c (line_of l)
unfolding line_of
peer_of_lem Verification l p e = rw e
peer_of_lem (Ciphering Han) l p e = rw e

-- its association, by the phase that the party has
pub association_of_lem : (c : Client) (l : LineState) (p : Party) (x : Phase) → p ≡ party_of c l → p.phase ≡ x
    → association_of x p.agreed (party_key c l) (party_client c l) (party_meter c l) ≡ (peer c (line_of l)).association
unfolding line_of
association_of_lem Verification l p x e f = rw (← f, e)
association_of_lem (Ciphering Han) l p x e f = rw (← f, e)

-- the association of a client that ciphers, by the phase of a part that is its own
pub held_of : (c : CipherClient) (l : LineState) (h : CipherParty) (x : Phase) → h ≡ cipher_of c l → h.party.phase ≡ x
    → association_of x h.party.agreed h.key h.client h.meter ≡ held c (line_of l)
unfolding line_of
held_of Han l h x e f = rw (← f, e)

-- What an association holds, by its phase.

module _ (a k c s : List ℕ) where
  pub agreed_held : (x : Phase) → while_standing x 3 a ≡ agreed_in (association_of x a k c s)
  agreed_held Idle = refl
  agreed_held Pending = refl
  agreed_held Associated = refl

  pub key_held : (x : Phase) → while_standing x 16 k ≡ key_in (association_of x a k c s)
  key_held Idle = refl
  key_held Pending = refl
  key_held Associated = refl

  pub client_held : (x : Phase) → while_pending x 8 c ≡ client_challenge (association_of x a k c s)
  client_held Idle = refl
  client_held Pending = refl
  client_held Associated = refl

  pub meter_held : (x : Phase) → while_pending x 8 s ≡ meter_challenge (association_of x a k c s)
  meter_held Idle = refl
  meter_held Pending = refl
  meter_held Associated = refl
