-- `hdlc_write::put_plain` meets its contract: head, FCS and flag are the frame.
use Rattle.hdlc_write.proofs.ReplyLaws.{with_check, with_flag}
use Rattle.hdlc.specs.Layout.{frame_of}
use Rattle.hdlc_write.proofs.put_plain.Goals as goal

pub returns : goal.returns
unfolding frame_of
returns c =
    with_flag (with_check c.put_head-fcs.ensures c.put_check-last.ensures) c.put.ensures
