-- What the messages of an association have by client (document 01, "The association"): whether the client ciphers, and the two
-- object identifiers, which are fixed byte strings. A further client is one line more in each of the three tables.
use Rattle.std.specs.Prelude.{Bool, true, false, List, [], ◌∷◌, ℕ}
use Rattle.model.specs.declared.Client.{Client}
use Rattle.model.specs.declared.Client.TheVariants.{Verification, Ciphering}

-- The object identifiers: logical names without and with ciphering; no security, and challenges answered by GMAC.

abbrev pub plain_context : List ℕ
plain_context = 0x60 ∷ 0x85 ∷ 0x74 ∷ 0x05 ∷ 0x08 ∷ 0x01 ∷ 0x01 ∷ []

abbrev pub ciphered_context : List ℕ
ciphered_context = 0x60 ∷ 0x85 ∷ 0x74 ∷ 0x05 ∷ 0x08 ∷ 0x01 ∷ 0x03 ∷ []

abbrev pub no_security : List ℕ
no_security = 0x60 ∷ 0x85 ∷ 0x74 ∷ 0x05 ∷ 0x08 ∷ 0x02 ∷ 0x00 ∷ []

abbrev pub gmac_security : List ℕ
gmac_security = 0x60 ∷ 0x85 ∷ 0x74 ∷ 0x05 ∷ 0x08 ∷ 0x02 ∷ 0x05 ∷ []

-- The tables.

-- the client's initiate request and its answer are "enclosed" in envelopes, and challenges are exchanged
abbrev pub ciphers : Client → Bool
ciphers Verification = false
ciphers (Ciphering c) = true

-- "context name 60 85 74 05 08 01 01 for V, last byte 03 for H"
abbrev pub context_name : Client → List ℕ
context_name Verification = plain_context
context_name (Ciphering c) = ciphered_context

-- "mechanism name 60 85 74 05 08 02 00 for V, last byte 05 for H"
abbrev pub mechanism_name : Client → List ℕ
mechanism_name Verification = no_security
mechanism_name (Ciphering c) = gmac_security
