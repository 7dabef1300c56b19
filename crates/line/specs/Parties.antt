-- A client's part of the line of the code, whichever the client; V has no key and no challenges.
use Rattle.std.specs.Prelude.{List, [], ℕ}
use Rattle.model.specs.declared.Client.{Client}
use Rattle.model.specs.declared.CipherClient.{CipherClient}
use Rattle.model.specs.declared.Client.TheVariants.{Verification, Ciphering}
use Rattle.model.specs.declared.CipherClient.TheVariants.{Han}
use Rattle.line.specs.declared.Party.{Party}
use Rattle.line.specs.declared.CipherParty.{CipherParty}
use Rattle.line.specs.declared.LineState.{LineState}
use Rattle.line.specs.View.{cipher_of}

abbrev pub party_of : Client → LineState → Party
party_of Verification l = l.verification
party_of (Ciphering c) l = (cipher_of c l).party

abbrev pub party_key : Client → LineState → List ℕ
party_key Verification l = []
party_key (Ciphering c) l = (cipher_of c l).key

abbrev pub party_client : Client → LineState → List ℕ
party_client Verification l = []
party_client (Ciphering c) l = (cipher_of c l).client

abbrev pub party_meter : Client → LineState → List ℕ
party_meter Verification l = []
party_meter (Ciphering c) l = (cipher_of c l).meter

-- the line with this part of a client that ciphers
abbrev pub with_cipher : CipherClient → CipherParty → LineState → LineState
with_cipher Han p l = record { title = l.title; verification = l.verification; han = p; p5 = l.p5 }
