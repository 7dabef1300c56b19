-- What AES-128-GCM is given besides a text, for an envelope and for a proof of the challenge (document 01, "The envelope and its
-- counters"): keys, nonce, associated data. GCM is that of `gcm` (SP 800-38D). A title has 8 bytes and a key 16; nothing here
-- depends on that. Which key goes with which tag is said where envelopes are used (protocol, specs/Clients and specs/Decide).
use Rattle.std.specs.Prelude.{List, ◌∷◌, ◌++◌, ℕ}
use Rattle.wire.specs.Numbers.{high_first}
use Rattle.gcm.specs.Gcm.{Key, ready}
use Rattle.gcm.specs.Calls.{key_of}
use Rattle.material.specs.declared.ReadyKeys.{ReadyKeys}

-- What the envelopes of an association go under: the key, made ready, that is "GUK" or the dedicated key, and "AK".
pub record Keys : Type 0 where
  pub key : Key
  pub ak : List ℕ

-- of two keys of sixteen bytes
abbrev pub keys_from : (key ak : List ℕ) → Keys
keys_from key ak = record { key = ready key; ak = ak }

-- those that are held ready
abbrev pub keys_of : ReadyKeys → Keys
keys_of k = record { key = key_of k.key; ak = k.ak }

-- "Nonce: sender's title and counter"
unfoldable pub nonce : List ℕ → ℕ → List ℕ
nonce title counter = title ++ high_first 4 counter

-- "30", the security control byte of an envelope: authenticated and encrypted
abbrev pub security_control : ℕ
security_control = 0x30

-- "Associated data: 30 and AK"
unfoldable pub associated_data : Keys → List ℕ
associated_data k = security_control ∷ k.ak

-- "10", the security control byte of a proof: authenticated only
abbrev pub proof_control : ℕ
proof_control = 0x10

-- what the GMAC of a proof goes over: 10, AK and the other side's challenge
unfoldable pub proof_data : Keys → List ℕ → List ℕ
proof_data k challenge = proof_control ∷ (k.ak ++ challenge)
