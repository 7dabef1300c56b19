-- `asking::answer_plain` meets its contract.
use mathlib.Core.Path.{refl}
use native.Mathlib.Omega.{arith}
use Rattle.model.proofs.LimitFacts.{reply_room_lem, text_room_lem}
use Rattle.line.specs.View.{line_of}
use Rattle.asking.proofs.ServedLaws.{answer_some, answer_short, plain_sent, serves}
use Rattle.asking.proofs.answer_plain.Goals as goal

pub turn-answer-requires-clause-room : goal.turn-answer-requires-clause-room
turn-answer-requires-clause-room c = omega (arith, reply_room_lem, text_room_lem, c.requires.1)

pub send_plain-requires : goal.send_plain-requires
send_plain-requires c =
    let t = c.turn-answer.ensures in
    (omega (arith, t.wrote.kept, c.requires.1), answer_some _ _ 11 t, answer_short _ _ 11 t)

pub returns : goal.returns
returns c =
    λ ak. let t = c.turn-answer.ensures in
    let a = c.args in
    serves _ _ a.meter a.meter.line _ refl t.refusal t.body (plain_sent _ _ 11 t ak a.head (line_of a.meter.line) (omega arith) c.send_plain.ensures) (λ d. refl)
