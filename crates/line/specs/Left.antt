-- What an association that is over leaves in the fields of a line: zeros. The view does not show these bytes, and document 01
-- knows none.
use Rattle.std.specs.Prelude.{◌≡◌, Bool, false, List, ℕ, replicate}
use Rattle.model.specs.declared.Client.{Client}
use Rattle.model.specs.declared.Client.TheVariants.{Verification, Ciphering}
use Rattle.model.specs.declared.Counters.{Counters}
use Rattle.model.specs.State.{no_counters}
use Rattle.model.specs.Calls.{powered_line}
use Rattle.line.specs.declared.Phase.TheVariants.{Idle}
use Rattle.line.specs.declared.Party.{Party}
use Rattle.line.specs.declared.CipherParty.{CipherParty}
use Rattle.line.specs.declared.LineState.{LineState}
use Rattle.line.specs.View.{cipher_of, line_of}

-- A client without an association.

abbrev pub resting_party : (title : List ℕ) → Bool → Party
resting_party t up = record { title = t; up = up; phase = Idle; agreed = replicate 3 0 }

-- one that ciphers
abbrev pub resting_cipher : (title : List ℕ) → Bool → Counters → CipherParty
resting_cipher t up n =
    record { party = resting_party t up; key = replicate 16 0; client = replicate 8 0; meter = replicate 8 0; counters = n }

-- a line of such clients, links down: that of a new meter, and of one that was powered up
unfoldable pub started_line : (title verification han : List ℕ) → Bool → LineState
started_line t v h f = record { title = t; verification = resting_party v false; han = resting_cipher h false no_counters; p5 = f }

-- What is promised.

-- both challenges of a client that ciphers
pub record NoChallenges (p : CipherParty) : Type 0 where
  pub client : p.client ≡ replicate 8 0
  pub meter : p.meter ≡ replicate 8 0

-- all that an association of such a client holds
pub record NoSecrets (p : CipherParty) : Type 0 where
  pub agreed : p.party.agreed ≡ replicate 3 0
  pub key : p.key ≡ replicate 16 0
  pub challenges : NoChallenges p

-- nothing is left of the client's association
abbrev pub Wiped : Client → LineState → Type 0
Wiped Verification l = l.verification.agreed ≡ replicate 3 0
Wiped (Ciphering c) l = NoSecrets (cipher_of c l)

-- power-up of a line: nothing is left of any association
pub record Restarted (before l : LineState) : Type 0 where
  pub view : line_of l ≡ powered_line (line_of before)
  pub wiped : (c : Client) → Wiped c l
