-- The AARE (document 01, "The association"; row 11 of "What goes out"). The context name is the client's, never one that was
-- received. The places in the middle column are those of the bytes at the right.
--
--   Every AARE
--     tag and length           0   61, length
--     context name             2   A1 09 06 07, 7 bytes by client
--     result                  13   A2 03 02 01, the result
--     diagnostic              18   A3 05 A1 03 02 01, the diagnostic
--
--   Rejected: result 1, diagnostic 13; 33 bytes
--     user information        25   BE 06 04 04, 0E 01 0A 00
--
--   Accepted, a client that does not cipher: result 0, diagnostic 0; 64 bytes
--     responding title        25   A4 0A 04 08, the meter's title
--     mechanism name          37   89 07, 7 bytes by client
--     user information        46   BE 10 04 0E, the initiate response
--
--   Accepted, a client that ciphers: result 0, diagnostic 14; 99 bytes
--     responding title        25   A4 0A 04 08, the meter's title
--     requirements            37   88 02 07 80
--     mechanism name          41   89 07, 7 bytes by client
--     challenge               50   AA 0A 80 08, the meter's challenge
--     user information        62   BE 23 04 21
--     envelope                66   33 bytes: the crate envelope closes it around the initiate response
--
-- Titles and challenges have 8 bytes. proofs/Layouts shows that the lengths are those of the bytes that follow.
use Rattle.std.specs.Prelude.{List, [], ◌∷◌, ◌++◌, ℕ}
use Rattle.model.specs.declared.Client.{Client}
use Rattle.acse.specs.Clients.{context_name, mechanism_name}
use Rattle.acse.specs.Initiate.{initiate_response}

-- what every AARE begins with
unfoldable pub outcome : (size : ℕ) → Client → (result diagnostic : ℕ) → List ℕ
outcome size client result diagnostic =
    (0x61 ∷ size ∷ [])
    ++ (0xA1 ∷ 0x09 ∷ 0x06 ∷ 0x07 ∷ [])
    ++ context_name client
    ++ (0xA2 ∷ 0x03 ∷ 0x02 ∷ 0x01 ∷ result ∷ [])
    ++ (0xA3 ∷ 0x05 ∷ 0xA1 ∷ 0x03 ∷ 0x02 ∷ 0x01 ∷ diagnostic ∷ [])

-- "the meter's title"
abbrev pub title_field : List ℕ → List ℕ
title_field title = (0xA4 ∷ 0x0A ∷ 0x04 ∷ 0x08 ∷ []) ++ title

-- "the mechanism name"
abbrev pub mechanism_field : Client → List ℕ
mechanism_field client = (0x89 ∷ 0x07 ∷ []) ++ mechanism_name client

-- "only the client's context name, result, diagnostic and user information"
unfoldable pub rejected_aare : Client → List ℕ
rejected_aare client =
    outcome 0x1F client 1 13
    ++ (0xBE ∷ 0x06 ∷ 0x04 ∷ 0x04 ∷ 0x0E ∷ 0x01 ∷ 0x0A ∷ 0x00 ∷ [])

-- accepted, to a client that does not cipher
unfoldable pub plain_aare : Client → (title agreed : List ℕ) → List ℕ
plain_aare client title agreed =
    outcome 0x3E client 0 0
    ++ title_field title
    ++ mechanism_field client
    ++ (0xBE ∷ 0x10 ∷ 0x04 ∷ 0x0E ∷ [])
    ++ initiate_response agreed

-- accepted, to a client that ciphers, up to the place where the envelope begins
unfoldable pub ciphered_aare_head : Client → (title challenge : List ℕ) → List ℕ
ciphered_aare_head client title challenge =
    outcome 0x61 client 0 14
    ++ title_field title
    ++ (0x88 ∷ 0x02 ∷ 0x07 ∷ 0x80 ∷ [])
    ++ mechanism_field client
    ++ (0xAA ∷ 0x0A ∷ 0x80 ∷ 0x08 ∷ [])
    ++ challenge
    ++ (0xBE ∷ 0x23 ∷ 0x04 ∷ 0x21 ∷ [])
