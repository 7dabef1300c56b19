-- `hdlc_write::put_around` meets its contract: head, HCS, the information that stands there, FCS and flag are the frame.
use borrow.Author.Rules.{rules}
use Rattle.hdlc_write.proofs.ReplyLaws.{around}
use Rattle.hdlc_write.proofs.put_around.Goals as goal

pub returns : goal.returns
returns c =
    around _ _ _ c.args.end c.requires.0 (search rules) c.put_head-hcs.ensures c.put_check.ensures c.put_check-last.ensures c.put.ensures
