-- The services of an association, three bytes of bits (document 01, "The association"; document 02, Q-4, block transfer).
use Rattle.std.specs.Prelude.{Bool, true, false, ◌&&◌, List, [], ◌∷◌, ℕ, eqb}
use Rattle.std.specs.Int.Bits.{bit_and}
use Rattle.model.specs.declared.Client.{Client}
use Rattle.model.specs.declared.Client.TheVariants.{Verification, Ciphering}
use Rattle.model.specs.declared.CipherClient.TheVariants.{Han}

-- "V is offered 00 00 14 and H 00 00 15"; "get with block transfer, offered to H by its service bit": 00 10 00 besides
abbrev pub offered : Client → List ℕ
offered Verification = 0x00 ∷ 0x00 ∷ 0x14 ∷ []
offered (Ciphering Han) = 0x00 ∷ 0x10 ∷ 0x15 ∷ []

-- "agreed: proposed and offered", bit by bit; a byte that is not proposed counts as 0
unfoldable pub common : (proposed offered : List ℕ) → List ℕ
common xs [] = []
common [] (o ∷ os) = 0 ∷ common [] os
common (a ∷ xs) (o ∷ os) = bit_and a o ∷ common xs os

-- each bit that is set in the first is set in the second
unfoldable pub within : List ℕ → List ℕ → Bool
within [] [] = true
within [] (o ∷ os) = false
within (a ∷ xs) [] = false
within (a ∷ xs) (o ∷ os) = eqb (bit_and a o) a && within xs os

-- The bits: "GET or ACTION without its agreed bit", "selective access agreed". A service is agreed where its bit lies within
-- the agreed services.

abbrev pub get_service : List ℕ
get_service = 0x00 ∷ 0x00 ∷ 0x10 ∷ []

abbrev pub selective_access : List ℕ
selective_access = 0x00 ∷ 0x00 ∷ 0x04 ∷ []

abbrev pub action_service : List ℕ
action_service = 0x00 ∷ 0x00 ∷ 0x01 ∷ []

abbrev pub block_transfer : List ℕ
block_transfer = 0x00 ∷ 0x10 ∷ 0x00 ∷ []
