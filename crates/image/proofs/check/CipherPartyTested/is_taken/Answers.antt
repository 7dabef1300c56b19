-- `image::check::CipherPartyTested::is_taken` meets its contract: by its party.
use mathlib.Core.Path.{sym, ◌∙◌}
use Rattle.image.proofs.TakenLaws.{cipher_party_taken}
use Rattle.image.proofs.check.CipherPartyTested.is_taken.Goals as goal

pub returns : goal.returns
returns c = c.is_taken.ensures ∙ sym (cipher_party_taken _)
