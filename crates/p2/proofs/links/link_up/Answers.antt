-- `p2::links::link_up` meets its contract.
use mathlib.Core.Path.{refl, sym, ◌∙◌}
use Rattle.protocol.specs.Rulings.{none, link_up_with_information, p5_holds_v, ua}
use Rattle.protocol.specs.Decide.{link_up}
use Rattle.ending.proofs.Endings.{says_line, ends_one}
use Rattle.line.specs.View.{line_of}
use Rattle.protocol.specs.Clients.{linked, peer}
use mathlib.Core.Bool.{true}
use Rattle.ending.specs.Inner.{meter_with}
use Rattle.p2.proofs.links.link_up.Goals as goal

pub returns-then-information : goal.returns-then-information
unfolding link_up
returns-then-information c b =
    rw c.if-information.true (c.refuse.ensures link_up_with_information refl b)

pub returns-then-is_held_by_p5 : goal.returns-then-is_held_by_p5
unfolding link_up
returns-then-is_held_by_p5 c b =
    rw (c.if-information.false, sym c.is_held_by_p5.ensures ∙ c.if-is_held_by_p5.true) (c.refuse-then-is_held_by_p5.ensures p5_holds_v refl b)

pub returns : goal.returns
unfolding link_up
returns c b =
    let l = line_of c.args.line in
    rw (c.if-information.false, sym c.is_held_by_p5.ensures ∙ c.if-is_held_by_p5.false)
    (says_line none (ua c.args.head) (meter_with c.args.line b) refl c.put_ua.ensures _ c.with_link.ensures.view refl
    (ends_one c.with_link.result c.args.client (linked true (peer c.args.client l)) l c.with_link.ensures.wiped))
