-- `line::clients::key_in` meets its contract.
use mathlib.Core.Path.{refl, ap, ◌∙◌}
use Rattle.line.specs.Canonical.{key_in}
use Rattle.line.proofs.PartyLaws.{held_of, key_held}
use Rattle.line.proofs.clients.key_in.Goals as goal

pub returns : goal.returns
returns c =
    let a = c.args in
    let h = c.cipher_of-h.result in
    c.while_standing.ensures
    ∙ key_held h.party.agreed h.key h.client h.meter h.party.phase
    ∙ ap key_in (held_of a.client a.line h h.party.phase c.cipher_of-h.ensures refl)
