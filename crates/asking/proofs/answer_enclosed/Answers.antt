-- `asking::answer_enclosed` meets its contract.
use mathlib.Core.Path.{◌≡◌, sym, ap, ◌∙◌}
use native.Mathlib.Omega.{arith}
use Rattle.model.proofs.LimitFacts.{reply_room_lem, text_room_lem}
use Rattle.cosem.specs.Tags.{dedicated_tag}
use Rattle.counters.specs.declared.Taken.{Taken}
use Rattle.counters.specs.Advance.{taken}
use Rattle.counters.specs.Window.{accepting}
use Rattle.line.specs.View.{line_of}
use Rattle.model.specs.declared.Counters.{Counters}
use Rattle.model.specs.State.{Association}
use Rattle.material.specs.Material.{keys_from}
use Rattle.protocol.specs.Clients.{counters, key_in, with_counters}
use Rattle.protocol.proofs.LineLaws.{advanced_is, counted_counters, counted_held, counted_title}
use Rattle.ending.proofs.Endings.{counted_same}
use Rattle.asking.proofs.ServedLaws.{answer_short, enclosed_sent, serves}
use Rattle.asking.proofs.answer_enclosed.Goals as goal

pub turn-answer-requires-clause-room : goal.turn-answer-requires-clause-room
turn-answer-requires-clause-room c = omega (arith, reply_room_lem, text_room_lem, c.requires.1)

pub send_enclosed-count-requires : goal.send_enclosed-count-requires
send_enclosed-count-requires c =
    let t = c.turn-answer.ensures in (omega (arith, t.wrote.kept, c.requires.1), answer_short _ _ 20 t)

pub returns : goal.returns
unfolding line_of taken
returns c lent e =
    let t = c.turn-answer.ensures in
    let a = c.args in
    let l = line_of a.meter.line in
    let k = a.opened.client in
    let held = counters k l in
    let pair = accepting held a.opened.counter in
    let accepts = c.accept-accepted.ensures ∙ ap (λ (n : Counters). accepting n a.opened.counter) c.counters_of-held.ensures in
    let number : c.take-taken.result ≡ taken pair = c.take-taken.ensures ∙ ap taken accepts in
    let after = with_counters k (taken pair).counters l in
    let next = c.with_counters.ensures ∙ ap (λ (n : Taken). with_counters k n.counters l) number in
    let keys = e ∙ ap (λ (x : Association). keys_from (key_in x) lent.ak) (sym (counted_held k (taken pair).counters l)) in
    let title = sym (counted_title k (taken pair).counters l) in
    let sent = ap (λ (n : Taken). n.number) number ∙ ap (λ (n : Counters). n.sent) (sym (counted_counters k (taken pair).counters l)) in
    rw (advanced_is k a.opened.counter l)
    (serves _ _ a.meter _ _ next t.refusal t.body
    (enclosed_sent _ _ 20 t k lent.ak _ a.opened.head (dedicated_tag a.kind) _ _ after (omega arith) keys title sent (rw c.answer_tag.ensures at c.send_enclosed-count.ensures))
    (counted_same k (taken pair).counters l))
