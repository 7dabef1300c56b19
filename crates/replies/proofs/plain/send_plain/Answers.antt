-- `replies::plain::send_plain` meets its contract: LLC before what stands there, and the frame around both.
use mathlib.Core.Path.{refl}
use borrow.Author.Rules.{rules}
use Rattle.model.proofs.LimitFacts.{reply_room_lem, text_room_lem}
use Rattle.replies.proofs.SendLaws.{stood}
use Rattle.replies.proofs.plain.send_plain.Goals as goal

pub returns : goal.returns
returns c =
    let a = c.args in
    let room = reply_room_lem in
    let text = text_room_lem in
    stood a.head a.n c.put_llc.ensures refl (search rules) c.put_data.ensures

pub put_llc-requires : goal.put_llc-requires
put_llc-requires c = let room = reply_room_lem in let text = text_room_lem in search rules

pub overflow_add-n : goal.overflow_add-n
overflow_add-n c = let room = reply_room_lem in let text = text_room_lem in search rules

pub put_data-requires : goal.put_data-requires
put_data-requires c = let room = reply_room_lem in let text = text_room_lem in search rules
