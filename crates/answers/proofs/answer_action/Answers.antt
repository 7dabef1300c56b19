-- `answers::answer_action` meets its contract.
use mathlib.Core.Path.{refl}
use native.Mathlib.Omega.{arith}
use Rattle.wire_write.proofs.WroteLaws.{then}
use Rattle.model.specs.Objects.{action}
use Rattle.model.proofs.LimitFacts.{text_room_lem}
use Rattle.objects.specs.Meanings.{found_as, request_as}
use Rattle.objects.specs.Picks.{parameter_in}
use Rattle.answers.proofs.AnswerLaws.{method_granted, method_denied}
use Rattle.std.proofs.Common.{arith}
use Rattle.answers.proofs.answer_action.Goals as goal

pub returns-in-Ok : goal.returns-in-Ok
returns-in-Ok c =
    let a = c.args in
    let v = parameter_in a.apdu.now a.argument in
    method_granted (request_as a.query (action a.method v)) a.body (found_as a.query.name a.found) _ a.method v _ (rw c.in-Ok.is at c.invoke_method.ensures) refl (then c.put_head-a.ensures c.put-b.ensures) (c.after_method.ensures a.query.name _ a.body)

pub returns-in-Err : goal.returns-in-Err
returns-in-Err c =
    let a = c.args in
    let v = parameter_in a.apdu.now a.argument in
    method_denied (request_as a.query (action a.method v)) a.body (found_as a.query.name a.found) _ a.method v _ (rw c.in-Err.is at c.invoke_method.ensures) refl (then (rw c.from.ensures at c.put_head-a-in-Err.ensures) c.put-b-in-Err.ensures) (rw c.unchanged.ensures refl)

pub put_head-a-requires : goal.put_head-a-requires
put_head-a-requires c = omega (arith, text_room_lem)

pub put-b-requires : goal.put-b-requires
put-b-requires c = omega (arith, text_room_lem)

pub put_head-a-requires-in-Err : goal.put_head-a-requires-in-Err
put_head-a-requires-in-Err c = omega (arith, text_room_lem)

pub put-b-requires-in-Err : goal.put-b-requires-in-Err
put-b-requires-in-Err c = omega (arith, text_room_lem)
