-- `p2::links::link_down` meets its contract.
use mathlib.Core.Path.{refl, sym, ◌∙◌}
use Rattle.protocol.specs.Rulings.{none, link_down_while_down, ua}
use Rattle.protocol.specs.Decide.{link_down}
use Rattle.ending.proofs.Endings.{says_line, ends_one}
use Rattle.line.specs.View.{line_of}
use Rattle.protocol.specs.Clients.{linked, peer}
use mathlib.Core.Bool.{false}
use Rattle.ending.specs.Inner.{meter_with}
use Rattle.p2.proofs.links.link_down.Goals as goal

pub returns-then-not-is_up : goal.returns-then-not-is_up
unfolding link_down
returns-then-not-is_up c b =
    rw (sym c.is_up.ensures ∙ c.if-not-is_up.true) (c.refuse.ensures link_down_while_down refl b)

pub returns : goal.returns
unfolding link_down
returns c b =
    let l = line_of c.args.line in
    rw (sym c.is_up.ensures ∙ c.if-not-is_up.false)
    (says_line none (ua c.args.head) (meter_with c.args.line b) refl c.put_ua.ensures _ c.with_link.ensures.view refl
    (ends_one c.with_link.result c.args.client (linked false (peer c.args.client l)) l c.with_link.ensures.wiped))
