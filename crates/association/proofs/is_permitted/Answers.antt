-- `association::is_permitted` meets its contract: a party's phase says which association it has.
use mathlib.Core.Path.{refl, ◌∙◌, ap}
use Rattle.model.specs.State.{Association}
use Rattle.protocol.specs.Clients.{permitted}
use Rattle.line.proofs.PartyLaws.{association_of_lem}
use Rattle.association.proofs.is_permitted.Goals as goal

pub returns : goal.returns
returns c =
    let a = c.args in
    c.permits.ensures _ _ _ _ ∙ ap (λ (x : Association). permitted a.client x a.tag) (association_of_lem a.client a.line _ _ c.party_of.ensures refl)
