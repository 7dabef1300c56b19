-- `p2::converse::release` meets its contract.
use mathlib.Core.Path.{refl, sym, ◌∙◌}
use Rattle.cosem.specs.Tags.{release_response}
use Rattle.protocol.specs.Rulings.{none, apdu, malformed_apdu}
use Rattle.protocol.specs.Decide.{released}
use Rattle.ending.proofs.Endings.{says_line, ends_one}
use Rattle.line.specs.View.{line_of}
use Rattle.protocol.specs.Clients.{with_association, peer}
use Rattle.model.specs.State.{none as no_association}
use Rattle.ending.specs.Inner.{meter_with}
use Rattle.p2.proofs.converse.release.Goals as goal

pub returns-then-not-is_release : goal.returns-then-not-is_release
unfolding released
returns-then-not-is_release c b =
    rw (sym c.is_release.ensures ∙ c.if-not-is_release.true) (c.except.ensures c.args.line malformed_apdu refl (λ d. refl) b)

pub returns : goal.returns
unfolding released
returns c b =
    let l = line_of c.args.line in
    rw (sym c.is_release.ensures ∙ c.if-not-is_release.false)
    (says_line none (apdu c.args.head release_response) (meter_with c.args.line b) refl c.send_release.ensures _ c.ended.ensures.view refl
    (ends_one c.ended.result c.args.client (with_association no_association (peer c.args.client l)) l c.ended.ensures.wiped))
