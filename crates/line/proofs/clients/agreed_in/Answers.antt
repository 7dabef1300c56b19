-- `line::clients::agreed_in` meets its contract.
use mathlib.Core.Path.{refl, ap, ◌∙◌}
use Rattle.line.specs.Canonical.{agreed_in}
use Rattle.line.specs.Parties.{party_key, party_client, party_meter}
use Rattle.line.proofs.PartyLaws.{association_of_lem, agreed_held}
use Rattle.line.proofs.clients.agreed_in.Goals as goal

pub returns : goal.returns
returns c =
    let a = c.args in
    let p = c.party_of-p.result in
    c.while_standing.ensures
    ∙ agreed_held p.agreed (party_key a.client a.line) (party_client a.client a.line) (party_meter a.client a.line) p.phase
    ∙ ap agreed_in (association_of_lem a.client a.line p p.phase c.party_of-p.ensures refl)
