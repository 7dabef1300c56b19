-- `replies::plain::send_rejected` meets its contract: the APDU behind LLC, and the frame around it.
use Rattle.model.proofs.LimitFacts.{text_room_lem}
use borrow.Author.Rules.{rules}
use Rattle.model.proofs.LimitFacts.{reply_room_lem}
use Rattle.hdlc_write.proofs.ReplyLaws.{apdu_framed}
use Rattle.replies.proofs.plain.send_rejected.Goals as goal

pub returns : goal.returns
returns c =
    apdu_framed c.args.head c.put_llc-at.ensures c.put_rejected-end.ensures.wrote c.put_data.ensures

pub put_llc-at-requires : goal.put_llc-at-requires
put_llc-at-requires c = let room = reply_room_lem in let text = text_room_lem in search rules

pub put_rejected-end-requires : goal.put_rejected-end-requires
put_rejected-end-requires c = let room = reply_room_lem in let text = text_room_lem in search rules

pub put_data-requires : goal.put_data-requires
put_data-requires c = let room = reply_room_lem in let text = text_room_lem in search rules
