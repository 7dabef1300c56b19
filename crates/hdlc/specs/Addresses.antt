-- Addresses on the wire (document 01, "The frame"): "twice the number plus one". The numbers of the clients stand in "What
-- the meter side covers". A further client is a number, and a place in the list of clients.
use Rattle.std.specs.Prelude.{cond, List, [], ◌∷◌, Option, Some, None, ℕ, ◌+◌, ◌*◌, eqb}
use Rattle.model.specs.declared.Client.{Client}
use Rattle.model.specs.declared.Client.TheVariants.{Verification, Ciphering}
use Rattle.model.specs.declared.CipherClient.TheVariants.{Han}

-- the address of a number
abbrev pub on_wire : ℕ → ℕ
on_wire n = 2 * n + 1

-- the meter has the number 01, and so the address 03
abbrev pub meter_address : ℕ
meter_address = on_wire 0x01

-- V 10 hex, H 13 hex
abbrev pub number_of_client : Client → ℕ
number_of_client Verification = 0x10
number_of_client (Ciphering Han) = 0x13

-- the address of a client: V 21, H 27
abbrev pub address_of : Client → ℕ
address_of c = on_wire (number_of_client c)

-- every client
abbrev pub clients : List Client
clients = Verification ∷ Ciphering Han ∷ []

-- the client of a list that has the address
abbrev pub sender_among : List Client → ℕ → Option Client
sender_among [] a = None
sender_among (c ∷ cs) a = cond (eqb a (address_of c)) (Some c) (sender_among cs a)

-- the client that has the address
unfoldable pub sender_of : ℕ → Option Client
sender_of a = sender_among clients a
