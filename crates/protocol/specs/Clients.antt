-- The clients on the line: what an association permits, and the keys of a client that ciphers (document 01, "The association"). Each
-- one's link, and what its association holds, are defined in model and line.
use Rattle.std.specs.Prelude.{Bool, true, false, not, ◌&&◌, List, ℕ}
use Rattle.model.specs.declared.Client.{Client}
use Rattle.model.specs.declared.CipherClient.{CipherClient}
use Rattle.model.specs.Services.{within, get_service, action_service, selective_access, block_transfer}
use Rattle.model.specs.State.{Association, none, pending, associated, Line}
use Rattle.model.specs.Soundness.{is_none}
use Rattle.cosem.specs.declared.Tag.{Tag}
use Rattle.cosem.specs.declared.Tag.TheVariants.{Aarq, Rlrq, PlainRequest, GlobalAction, DedicatedRequest, Unknown}
use Rattle.cosem.specs.declared.ServiceKind.{ServiceKind}
use Rattle.cosem.specs.declared.ServiceKind.TheVariants.{Get, Set, Action}
pub use Rattle.model.specs.Clients.{ciphering, with_ciphering, peer, with_peer, linked, with_association, associates, counters, with_counters, held}
pub use Rattle.line.specs.Canonical.{agreed_in, key_in, client_challenge, meter_challenge}
use Rattle.acse.specs.Clients.{ciphers}
use Rattle.material.specs.Material.{Keys, keys_from}
use Rattle.protocol.specs.declared.Secrets.{Secrets}

abbrev pub selective_in : Client → Line → Bool
selective_in c l = within selective_access (agreed_in (peer c l).association)

-- document 02, Q-4: "get with block transfer, offered to H by its service bit"
abbrev pub blocks_in : Client → Line → Bool
blocks_in c l = within block_transfer (agreed_in (peer c l).association)

-- The keys of a client that ciphers.

-- "GUK for 21, 28, CB, CF"
abbrev pub lent_keys : Secrets → Keys
lent_keys a = keys_from a.guk a.ak

-- "the dedicated key for D0, D3 (requests) and D4, D7 (answers)"
abbrev pub dedicated_keys : (ak : List ℕ) → CipherClient → Line → Keys
dedicated_keys ak c l = keys_from (key_in (held c l)) ak

-- What is permitted.

abbrev pub is_pending : Association → Bool
is_pending none = false
is_pending (pending a k c s) = true
is_pending (associated a k) = false

abbrev pub is_associated : Association → Bool
is_associated none = false
is_associated (pending a k c s) = false
is_associated (associated a k) = true

-- "when associated GET (V: C0, H: D0) and for H ACTION (D3)": plain from a client that does not cipher, and under the dedicated key
-- from one that does
abbrev pub may_ask_plain : Client → ServiceKind → Bool
may_ask_plain c Get = not (ciphers c)
may_ask_plain c Set = false
may_ask_plain c Action = false

abbrev pub may_ask_enclosed : Client → ServiceKind → Bool
may_ask_enclosed c Get = ciphers c
may_ask_enclosed c Set = false
may_ask_enclosed c Action = ciphers c

-- "Permitted: AARQ (60) in none, RLRQ (62) in the others; when associated" requests; "while pending CB"
abbrev pub permitted : Client → Association → Tag → Bool
permitted c x Aarq = is_none x
permitted c x Rlrq = not (is_none x)
permitted c x (PlainRequest k) = is_associated x && may_ask_plain c k
permitted c x GlobalAction = is_pending x && ciphers c
permitted c x (DedicatedRequest k) = is_associated x && may_ask_enclosed c k
permitted c x Unknown = false

-- "GET or ACTION without its agreed bit"; SET has none, and the other tags need none
abbrev pub service_agreed : List ℕ → ServiceKind → Bool
service_agreed a Get = within get_service a
service_agreed a Set = true
service_agreed a Action = within action_service a

abbrev pub bit_agreed : List ℕ → Tag → Bool
bit_agreed a Aarq = true
bit_agreed a Rlrq = true
bit_agreed a (PlainRequest k) = service_agreed a k
bit_agreed a GlobalAction = true
bit_agreed a (DedicatedRequest k) = service_agreed a k
bit_agreed a Unknown = true

abbrev pub is_unknown : Tag → Bool
is_unknown Aarq = false
is_unknown Rlrq = false
is_unknown (PlainRequest k) = false
is_unknown GlobalAction = false
is_unknown (DedicatedRequest k) = false
is_unknown Unknown = true
