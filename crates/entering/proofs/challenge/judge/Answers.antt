-- `entering::challenge::judge` meets its contract.
use mathlib.Core.Path.{refl, sym, ◌∙◌}
use Rattle.protocol.specs.Rulings.{not_the_challenge}
use Rattle.protocol.specs.Decide.{challenged}
use Rattle.line.specs.View.{line_of}
use Rattle.ending.proofs.Endings.{accepted_same}
use Rattle.ending.proofs.Envelopes.{proves_under}
use Rattle.entering.proofs.challenge.judge.Goals as goal

pub returns-then-not-is_challenge : goal.returns-then-not-is_challenge
unfolding challenged
returns-then-not-is_challenge c a e b =
    let next = c.accept_counter-next.ensures in
    rw (sym c.is_challenge.ensures ∙ c.if-not-is_challenge.true, sym next)
    (c.except.ensures c.args.line not_the_challenge refl (λ d. accepted_same c.args.opened.client c.args.opened.counter (line_of c.args.line) next d) b)

pub returns-then-proves_itself : goal.returns-then-proves_itself
unfolding challenged
returns-then-proves_itself c a e b =
    rw (sym c.is_challenge.ensures ∙ c.if-not-is_challenge.false, proves_under c.args.opened.client (line_of c.args.line) a c.args.opened.counter c.args.text.now c.args.request e c.proves_itself.ensures ∙ c.if-proves_itself.true)
    (c.prove.ensures a e b)

pub returns-else-proves_itself : goal.returns-else-proves_itself
unfolding challenged
returns-else-proves_itself c a e b =
    rw (sym c.is_challenge.ensures ∙ c.if-not-is_challenge.false, proves_under c.args.opened.client (line_of c.args.line) a c.args.opened.counter c.args.text.now c.args.request e c.proves_itself.ensures ∙ c.if-proves_itself.false)
    (c.disprove.ensures a e b)
