-- `line::clients::meter_challenge` meets its contract.
use mathlib.Core.Path.{refl, ap, ◌∙◌}
use Rattle.line.specs.Canonical.{meter_challenge}
use Rattle.line.proofs.PartyLaws.{held_of, meter_held}
use Rattle.line.proofs.clients.meter_challenge.Goals as goal

pub returns : goal.returns
returns c =
    let a = c.args in
    let h = c.cipher_of-h.result in
    c.while_pending.ensures
    ∙ meter_held h.party.agreed h.key h.client h.meter h.party.phase
    ∙ ap meter_challenge (held_of a.client a.line h h.party.phase c.cipher_of-h.ensures refl)
