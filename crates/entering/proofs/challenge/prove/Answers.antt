-- `entering::challenge::prove` meets its contract.
use mathlib.Core.Path.{refl, sym, ap, ◌∙◌}
use Rattle.line.specs.View.{line_of}
use Rattle.protocol.specs.Rulings.{none}
use Rattle.protocol.specs.Decide.{proved}
use Rattle.ending.proofs.Endings.{says_line, counted, stands_ciphered}
use Rattle.protocol.specs.Clients.{associates, agreed_in, held, key_in}
use Rattle.model.specs.State.{associated}
use Rattle.model.specs.declared.Client.TheVariants.{Ciphering}
use Rattle.model.specs.declared.Counters.{Counters}
use Rattle.counters.specs.Window.{accepting}
use Rattle.ending.specs.Inner.{meter_with}
use Rattle.entering.proofs.challenge.prove.Goals as goal

pub returns : goal.returns
unfolding proved line_of
returns c a e b =
    let l = line_of c.args.line in
    let k = c.args.opened.client in
    let after = associated (agreed_in (held k l)) (key_in (held k l)) in
    let pair = c.accept.ensures ∙ ap (λ (n : Counters). accepting n c.args.opened.counter) c.counters_of-held.ensures in
    rw (sym c.client_challenge.ensures, sym pair, sym c.take-first.ensures, sym c.take-second.ensures)
    (says_line none _ (meter_with c.args.line b) refl (rw e at c.send_proof-count.ensures) _ c.associated_ciphered.ensures.view refl
    (counted c.associated_ciphered.result k c.take-second.result.counters (associates (Ciphering k) after l)
    (stands_ciphered c.associated_ciphered.result k after l refl (λ _. c.associated_ciphered.ensures.wiped))))
