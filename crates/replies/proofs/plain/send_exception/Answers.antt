-- `replies::plain::send_exception` meets its contract: the APDU behind LLC, and the frame around it.
use Rattle.model.proofs.LimitFacts.{text_room_lem}
use borrow.Author.Rules.{rules}
use Rattle.model.proofs.LimitFacts.{reply_room_lem}
use Rattle.hdlc_write.proofs.ReplyLaws.{apdu_framed}
use Rattle.protocol.proofs.Lengths.{length_exception}
use Rattle.replies.proofs.plain.send_exception.Goals as goal

pub put_data-requires : goal.put_data-requires
put_data-requires c =
    let room = reply_room_lem in
    let size = length_exception c.args.e in
    search rules

pub returns : goal.returns
returns c =
    apdu_framed c.args.head c.put_llc-at.ensures c.put_exception-end.ensures c.put_data.ensures

pub put_llc-at-requires : goal.put_llc-at-requires
put_llc-at-requires c = let room = reply_room_lem in let text = text_room_lem in search rules

pub put_exception-end-requires : goal.put_exception-end-requires
put_exception-end-requires c = let room = reply_room_lem in let text = text_room_lem in search rules
