-- `line::clients::has_agreed` meets its contract.
use Rattle.std.proofs.Common.{◌≡◌, ◌∙◌, sym, length, rules}
use Rattle.line.specs.View.{line_of}
use Rattle.line.proofs.LineLaws.{agreed_when}
use Rattle.line.proofs.clients.has_agreed.Goals as goal

pub returns-then-eq : goal.returns-then-eq
unfolding line_of
returns-then-eq c =
    let h = c.args.line.han in
    let three : length c.args.service ≡ 3 = search rules in
    rw (agreed_when h.party.phase c.args.service h.party.agreed h.key h.client h.meter three, sym c.eq.ensures ∙ c.if-eq.true) c.is_within.ensures

pub returns-else-eq : goal.returns-else-eq
unfolding line_of
returns-else-eq c =
    let h = c.args.line.han in
    let three : length c.args.service ≡ 3 = search rules in
    rw (agreed_when h.party.phase c.args.service h.party.agreed h.key h.client h.meter three, sym c.eq.ensures ∙ c.if-eq.false) c.if-eq.false
