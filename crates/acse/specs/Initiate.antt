-- The initiate request and the initiate response (document 01, "The association").
--
-- Request: 14 bytes of a client that does not cipher, 31 of one that does
--
--   01                       initiate request
--   00                       no dedicated key; or, of a client that ciphers,
--   01 10, 16 bytes          the dedicated key
--   00 00 06                 response allowed, no quality of service, version
--   5F 1F 04 00, 3 bytes     the proposed services, of any value
--   2 bytes                  the size, at least the least one
--
-- Response, 14 bytes
--
--   08 00 06                 initiate response, no quality of service, version
--   5F 1F 04 00, 3 bytes     the agreed services
--   2 bytes                  the size that the meter tells
--   00 07                    the name by which logical names are referred to
use Rattle.std.specs.Prelude.{cond, List, [], ◌∷◌, ◌++◌, ℕ, Option, Some, None}
use Rattle.wire.specs.Numbers.{high_first}
use Rattle.model.specs.Limits.{longest_sent, longest_received, least_size, told_size}
use Rattle.acse.specs.Pieces.{Piece, fixed, free, number, is_laid}
use Rattle.acse.specs.declared.InitiateRequest.{InitiateRequest}

-- what follows the dedicated key
abbrev pub request_end : List Piece
request_end =
    fixed (0x00 ∷ 0x00 ∷ 0x06 ∷ [])
    ∷ fixed (0x5F ∷ 0x1F ∷ 0x04 ∷ 0x00 ∷ [])
    ∷ free 3
    ∷ number 2 (least_size longest_sent)
    ∷ []

-- the request of a client that does not cipher
abbrev pub plain_request : List Piece
plain_request = fixed (0x01 ∷ []) ∷ fixed (0x00 ∷ []) ∷ request_end

-- the request of a client that ciphers
abbrev pub keyed_request : List Piece
keyed_request = fixed (0x01 ∷ []) ∷ fixed (0x01 ∷ 0x10 ∷ []) ∷ free 16 ∷ request_end

-- the text of an opened envelope, read as the request of a client that ciphers: the places of its key and its services; or there is none
unfoldable pub read_request : List ℕ → Option InitiateRequest
read_request s = cond (is_laid keyed_request s 0) (Some (record { key = 3; services = 26 })) None

-- the response that tells the agreed services
unfoldable pub initiate_response : List ℕ → List ℕ
initiate_response agreed =
    (0x08 ∷ 0x00 ∷ 0x06 ∷ 0x5F ∷ 0x1F ∷ 0x04 ∷ 0x00 ∷ [])
    ++ agreed
    ++ high_first 2 (told_size longest_received)
    ++ (0x00 ∷ 0x07 ∷ [])
