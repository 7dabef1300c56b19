-- The numbers written in specs/ are those of the bytes that they speak of: each length is the length of what follows it, and
-- each place is the size of the pieces before it.
use mathlib.Core.Path.{◌≡◌, refl}
use mathlib.Core.List.{List, [], ◌∷◌, ◌++◌}
use Prim.Native.Nat.{ℕ, ◌+◌}
use native.Mathlib.Omega.{arith}
use lib.ListN.{length, take, length-append}
use Rattle.wire.specs.Numbers.{length_field}
use Rattle.model.specs.declared.Client.{Client}
use Rattle.model.specs.declared.Client.TheVariants.{Verification, Ciphering}
use Rattle.model.specs.declared.CipherClient.TheVariants.{Han}
use Rattle.model.specs.Limits.{envelope_length, longest_received, told_size}
use Rattle.acse.specs.Clients.{context_name, mechanism_name}
use Rattle.acse.specs.Initiate.{plain_request, keyed_request, initiate_response}
use Rattle.acse.specs.Aarq.{plain_aarq, ciphered_aarq}
use Rattle.acse.specs.Aare.{outcome, rejected_aare, plain_aare, ciphered_aare_head}
use Rattle.acse.proofs.LaidLaws.{layout_size}

pub length_context : (client : Client) → length (context_name client) ≡ 0x07
length_context Verification = refl
length_context (Ciphering Han) = refl

pub length_mechanism : (client : Client) → length (mechanism_name client) ≡ 0x07
length_mechanism Verification = refl
length_mechanism (Ciphering Han) = refl

-- Initiate request and response.

pub plain_request_lem : layout_size plain_request ≡ 0x0E
plain_request_lem = refl

pub keyed_request_lem : layout_size keyed_request ≡ 31
keyed_request_lem = refl

pub key_place_lem : layout_size (take 2 keyed_request) ≡ 3
key_place_lem = refl

pub services_place_lem : layout_size (take 5 keyed_request) ≡ 26
services_place_lem = refl

-- "08 00 06 5F 1F 04 00, agreed services, 03 00 00 07"
pub response_bytes : (agreed : List ℕ) → initiate_response agreed ≡ (0x08 ∷ 0x00 ∷ 0x06 ∷ 0x5F ∷ 0x1F ∷ 0x04 ∷ 0x00 ∷ []) ++ agreed ++ (0x03 ∷ 0x00 ∷ []) ++ (0x00 ∷ 0x07 ∷ [])
unfolding initiate_response told_size longest_received
response_bytes agreed = refl

pub length_response : (agreed : List ℕ) → length agreed ≡ 3 → length (initiate_response agreed) ≡ 0x0E
length_response agreed h = rw (response_bytes agreed) (simp length-append (omega arith))

-- The envelopes: of the request, and of the response.

pub request_envelope : envelope_length (layout_size keyed_request) ≡ 0x32
unfolding envelope_length length_field
request_envelope = refl

pub response_envelope : (agreed : List ℕ) → length agreed ≡ 3 → envelope_length (length (initiate_response agreed)) ≡ 0x21
unfolding envelope_length length_field
response_envelope agreed h = rw (length_response agreed h)

-- AARQ and AARE: what follows tag and length.

module _ (client : Client) (title : List ℕ) (eight : length title ≡ 8) where
  pub plain_size : layout_size (plain_aarq client title) ≡ 2 + 0x32
  plain_size = rw (length_context client, length_mechanism client, eight)

  pub plain_services : layout_size (take 12 (plain_aarq client title)) ≡ 47
  plain_services = rw (length_context client, length_mechanism client, eight)

  pub ciphered_size : layout_size (ciphered_aarq client title) ≡ 2 + 0x66
  ciphered_size = rw (length_context client, length_mechanism client, eight)

  pub ciphered_challenge : layout_size (take 9 (ciphered_aarq client title)) ≡ 42
  ciphered_challenge = rw (length_context client, length_mechanism client, eight)

  pub ciphered_envelope : layout_size (take 11 (ciphered_aarq client title)) ≡ 54
  ciphered_envelope = rw (length_context client, length_mechanism client, eight)

  pub length_plain : (agreed : List ℕ) → length agreed ≡ 3 → length (plain_aare client title agreed) ≡ 2 + 0x3E
  unfolding plain_aare outcome
  length_plain agreed h =
      simp (length-append, length_context client, length_mechanism client, eight, length_response agreed h)

  pub length_head : (challenge agreed : List ℕ) → length challenge ≡ 8 → length agreed ≡ 3 → length (ciphered_aare_head client title challenge) + envelope_length (length (initiate_response agreed)) ≡ 2 + 0x61
  unfolding ciphered_aare_head outcome
  length_head challenge agreed h k =
      simp (response_envelope agreed k, length-append, length_context client, length_mechanism client, eight, h)

pub length_rejected : (client : Client) → length (rejected_aare client) ≡ 2 + 0x1F
unfolding rejected_aare outcome
length_rejected client = simp (length-append, length_context client)
