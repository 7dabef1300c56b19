-- `entering::challenge::disprove` meets its contract.
use mathlib.Core.Path.{refl, sym, ap, ◌∙◌}
use Rattle.model.specs.declared.Client.TheVariants.{Ciphering}
use Rattle.model.specs.State.{none}
use Rattle.line.specs.View.{line_of}
use Rattle.protocol.specs.Clients.{peer, with_association, associates}
use Rattle.protocol.specs.Rulings.{wrong_proof}
use Rattle.protocol.specs.Decide.{disproved}
use Rattle.protocol.proofs.LineLaws.{associates_counted}
use Rattle.ending.proofs.Endings.{counted, ends_one, says_line}
use Rattle.model.specs.declared.Counters.{Counters}
use Rattle.counters.specs.Window.{accepting}
use Rattle.ending.specs.Inner.{meter_with}
use Rattle.entering.proofs.challenge.disprove.Goals as goal

pub returns : goal.returns
unfolding disproved line_of
returns c a e b =
    let l = line_of c.args.line in
    let k = c.args.opened.client in
    let pair = c.accept.ensures ∙ ap (λ (n : Counters). accepting n c.args.opened.counter) c.counters_of-held.ensures in
    rw (sym pair, sym c.take-first.ensures)
    (says_line wrong_proof _ (meter_with c.args.line b) refl (rw e at c.send_denial-count.ensures) _
    (c.ended.ensures.view ∙ ap (associates (Ciphering k) none) c.with_counters-advanced.ensures ∙ associates_counted k none c.take-first.result.counters l) refl
    (counted c.ended.result k c.take-first.result.counters (associates (Ciphering k) none l)
    (ends_one c.ended.result (Ciphering k) (with_association none (peer (Ciphering k) l)) l c.ended.ensures.wiped)))
