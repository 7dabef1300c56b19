-- The AARQ (document 01, "The association"): "fields stand once each, in Green Book order", each of a fixed size, so that an
-- AARQ is one pattern and "any departure" is alike. The places in the middle column are those of the bytes at the right.
--
--   A client that does not cipher, 52 bytes
--     tag and length           0   60 32
--     context name             2   A1 09 06 07, 7 bytes by client
--     calling title           13   A6 0A 04 08, the title held
--     mechanism name          25   8B 07, 7 bytes by client
--     user information        34   BE 10 04 0E
--     initiate request        38   14 bytes; the proposed services from 47 on
--
--   A client that ciphers, 104 bytes
--     tag and length           0   60 66
--     context name             2   A1 09 06 07, 7 bytes by client
--     calling title           13   A6 0A 04 08, the title held
--     requirements            25   8A 02 07 80
--     mechanism name          29   8B 07, 7 bytes by client
--     challenge               38   AC 0A 80 08; 8 bytes of any value from 42 on
--     user information        50   BE 34 04 32
--     envelope                54   50 bytes, which the crate envelope opens
--
-- Titles have 8 bytes. proofs/Layouts shows that lengths and places are those of the bytes that they speak of.
use Rattle.std.specs.Prelude.{cond, List, [], ◌∷◌, ◌++◌, ℕ, Option, Some, None}
use Rattle.model.specs.declared.Client.{Client}
use Rattle.acse.specs.Clients.{ciphers, context_name, mechanism_name}
use Rattle.acse.specs.Pieces.{Piece, fixed, free, is_laid}
use Rattle.acse.specs.Initiate.{plain_request}
use Rattle.acse.specs.declared.Aarq.{Aarq}
use Rattle.acse.specs.declared.Aarq.TheVariants.{Plain, Ciphered}

-- tag and length, "context name", "calling title"
abbrev pub aarq_start : (size : ℕ) → Client → (title : List ℕ) → List Piece
aarq_start size client title =
    fixed (0x60 ∷ size ∷ [])
    ∷ fixed (0xA1 ∷ 0x09 ∷ 0x06 ∷ 0x07 ∷ [])
    ∷ fixed (context_name client)
    ∷ fixed (0xA6 ∷ 0x0A ∷ 0x04 ∷ 0x08 ∷ [])
    ∷ fixed title
    ∷ []

-- "mechanism name"
abbrev pub mechanism_pieces : Client → List Piece
mechanism_pieces client = fixed (0x8B ∷ 0x07 ∷ []) ∷ fixed (mechanism_name client) ∷ []

-- "user information" of a client that does not cipher: its initiate request
abbrev pub plain_information : List Piece
plain_information = fixed (0xBE ∷ 0x10 ∷ 0x04 ∷ 0x0E ∷ []) ∷ plain_request

-- "user information" of a client that ciphers: its envelope
abbrev pub ciphered_information : List Piece
ciphered_information = fixed (0xBE ∷ 0x34 ∷ 0x04 ∷ 0x32 ∷ []) ∷ free 50 ∷ []

-- the AARQ of a client that does not cipher, with its title
abbrev pub plain_aarq : Client → (title : List ℕ) → List Piece
plain_aarq client title = aarq_start 0x32 client title ++ mechanism_pieces client ++ plain_information

-- the AARQ of a client that ciphers, with its title: besides, "requirements" before the mechanism name and the "challenge" after it
abbrev pub ciphered_aarq : Client → (title : List ℕ) → List Piece
ciphered_aarq client title =
    aarq_start 0x66 client title
    ++ (fixed (0x8A ∷ 0x02 ∷ 0x07 ∷ 0x80 ∷ []) ∷ [])
    ++ mechanism_pieces client
    ++ (fixed (0xAC ∷ 0x0A ∷ 0x80 ∷ 0x08 ∷ []) ∷ free 8 ∷ [])
    ++ ciphered_information

-- an AARQ from a client whose title is held: accepted, with the place of the proposed services; or, of a client that ciphers,
-- right as far as it can be read, with the places of the challenge and the envelope; or none, where it departs
unfoldable pub read_aarq : List ℕ → Client → List ℕ → Option Aarq
read_aarq s client title =
    cond (ciphers client) (cond (is_laid (ciphered_aarq client title) s 0) (Some (Ciphered 42 54)) None)
    (cond (is_laid (plain_aarq client title) s 0) (Some (Plain 47)) None)
