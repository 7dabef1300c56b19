-- `entering::aarq::accept_ciphered` meets its contract.
use mathlib.Core.Path.{refl, sym, ap, ◌∙◌}
use mathlib.Core.Bool.{false≢true}
use Rattle.line.specs.View.{line_of}
use Rattle.protocol.specs.Rulings.{none}
use Rattle.protocol.specs.Decide.{accepted_ciphered}
use Rattle.ending.proofs.Endings.{says_line, counted, stands_ciphered}
use Rattle.protocol.specs.Clients.{associates}
use Rattle.model.specs.State.{pending}
use Rattle.model.specs.declared.Client.TheVariants.{Ciphering}
use Rattle.model.specs.declared.Counters.{Counters}
use Rattle.counters.specs.Window.{accepting}
use Rattle.ending.specs.Inner.{meter_with}
use Rattle.entering.proofs.aarq.accept_ciphered.Goals as goal

pub returns : goal.returns
unfolding accepted_ciphered line_of
returns c e b =
    let l = line_of c.args.line in
    let k = c.args.opened.client in
    let after = pending c.agreed-agreed.result c.args.key c.args.challenge c.args.secrets.challenge in
    let pair = c.accept.ensures ∙ ap (λ (n : Counters). accepting n c.args.opened.counter) c.counters_of-held.ensures in
    rw (sym c.agreed-agreed.ensures, sym pair, sym c.take-next.ensures)
    (says_line none _ (meter_with c.args.line b) refl (rw e at c.send_accepted_ciphered-count.ensures) _ c.pending.ensures refl
    (counted c.pending.result k c.take-next.result.counters (associates (Ciphering k) after l)
    (stands_ciphered c.pending.result k after l refl (λ g. absurd (false≢true g)))))
