-- `ending::drop_association` meets its contract.
use mathlib.Core.Path.{refl}
use Rattle.protocol.specs.Rulings.{nothing, outside_window}
use Rattle.ending.proofs.Endings.{nothing_sent, says_line, ends_one}
use Rattle.line.specs.View.{line_of}
use Rattle.protocol.specs.Clients.{with_association, peer}
use Rattle.model.specs.declared.Client.TheVariants.{Ciphering}
use Rattle.model.specs.State.{none as no_association}
use Rattle.ending.specs.Inner.{meter_with}
use Rattle.ending.proofs.drop_association.Goals as goal

pub returns : goal.returns
returns c l b =
    let before = line_of c.args.line in
    rw c.kept.ensures
    (says_line outside_window nothing (meter_with c.args.line b) refl (nothing_sent l) _ c.ended.ensures.view refl
    (ends_one c.ended.result (Ciphering c.args.client) (with_association no_association (peer (Ciphering c.args.client) before)) before c.ended.ensures.wiped))
