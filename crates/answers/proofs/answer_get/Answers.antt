-- `answers::answer_get` meets its contract.
use mathlib.Core.Path.{refl}
use native.Mathlib.Omega.{arith}
use native.Mathlib.Nat.{mul-zero}
use Rattle.wire_write.proofs.WroteLaws.{then}
use Rattle.model.specs.Objects.{get, granted, begun, denied}
use Rattle.model.proofs.LimitFacts.{data_room_lem, text_room_lem}
use Rattle.picks.specs.Transfers.{transfer_of}
use Rattle.body.specs.View.{body_of}
use Rattle.body.proofs.BodyLaws.{sound_even}
use Rattle.objects.specs.Meanings.{found_as, request_as}
use Rattle.objects.specs.Picks.{selection_in}
use Rattle.answers.proofs.AnswerLaws.{read_granted, read_begun, read_denied}
use Rattle.answers.proofs.TransferLaws.{begun_by}
use Rattle.std.proofs.Common.{arith}
use Rattle.model.proofs.LimitFacts.{text_room_lem}
use Rattle.answers.proofs.answer_get.Goals as goal

pub put_data-b-requires : goal.put_data-b-requires
unfolding body_of
put_data-b-requires c =
    let w = rw (c.in-Ok-Granted.is, c.in-Ok-Granted.field-0-is) at c.read_attribute.ensures.writable in
    (c.requires.0, omega (arith, w, data_room_lem, text_room_lem))

pub put_rows_block-b-requires : goal.put_rows_block-b-requires
put_rows_block-b-requires c =
    ((_, sound_even c.args.body c.requires.0), omega arith, omega arith, rw mul-zero (omega arith), c.requires.1)

pub returns-in-Ok-Granted : goal.returns-in-Ok-Granted
unfolding transfer_of
returns-in-Ok-Granted c =
    let a = c.args in
    let v = selection_in a.apdu.now a.selector in
    let comes = c.read_attribute.ensures in
    let w = rw (c.in-Ok-Granted.is, c.in-Ok-Granted.field-0-is) at comes.writable in
    read_granted (request_as a.query (get a.attribute v)) a.body (found_as a.query.name a.found) _ a.attribute v _ (rw (c.in-Ok-Granted.is, c.in-Ok-Granted.field-0-is) at comes.means) w refl
    (then c.put_head-a.ensures c.put_data-b.ensures) (c.after_read.ensures (granted _) (rw c.no_transfer.ensures) a.body)

pub returns-in-Ok-Begun : goal.returns-in-Ok-Begun
unfolding transfer_of body_of
returns-in-Ok-Begun c =
    let a = c.args in
    let v = selection_in a.apdu.now a.selector in
    let comes = c.read_attribute.ensures in
    let means = rw (c.in-Ok-Begun.is, c.in-Ok-Begun.field-0-is) at comes.means in
    let q = request_as a.query (get a.attribute v) in
    let w = found_as a.query.name a.found in
    let starts = begun_by v q a.attribute (body_of a.body) w comes.starts _ means in
    let asked = c.picking_of-picking.ensures starts.belongs starts.asked starts.is in
    read_begun q a.body w _ a.attribute v comes.starts _ means refl c.put_rows_block-b.ensures.wrote
    (c.after_read-in-Ok-Begun.ensures (begun comes.starts _) (rw (c.running.ensures, asked) starts.runs) a.body)

pub returns-in-Err : goal.returns-in-Err
unfolding transfer_of
returns-in-Err c =
    let a = c.args in
    let v = selection_in a.apdu.now a.selector in
    read_denied (request_as a.query (get a.attribute v)) a.body (found_as a.query.name a.found) _ a.attribute v _ (rw c.in-Err.is at c.read_attribute.ensures.means) refl
    (then c.put_head-a-in-Err.ensures (rw c.from.ensures at c.put-b.ensures)) (c.after_read-in-Err.ensures (denied _) (rw c.no_transfer-in-Err.ensures) a.body)

pub put_head-a-requires : goal.put_head-a-requires
put_head-a-requires c = omega (arith, text_room_lem)

pub put_head-a-requires-in-Err : goal.put_head-a-requires-in-Err
put_head-a-requires-in-Err c = omega (arith, text_room_lem)

pub put-b-requires : goal.put-b-requires
put-b-requires c = omega (arith, text_room_lem)
