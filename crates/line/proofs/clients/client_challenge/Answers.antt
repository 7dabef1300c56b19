-- `line::clients::client_challenge` meets its contract.
use mathlib.Core.Path.{refl, ap, ◌∙◌}
use Rattle.line.specs.Canonical.{client_challenge}
use Rattle.line.proofs.PartyLaws.{held_of, client_held}
use Rattle.line.proofs.clients.client_challenge.Goals as goal

pub returns : goal.returns
returns c =
    let a = c.args in
    let h = c.cipher_of-h.result in
    c.while_pending.ensures
    ∙ client_held h.party.agreed h.key h.client h.meter h.party.phase
    ∙ ap client_challenge (held_of a.client a.line h h.party.phase c.cipher_of-h.ensures refl)
