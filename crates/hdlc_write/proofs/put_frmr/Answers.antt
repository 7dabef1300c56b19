-- `hdlc_write::put_frmr` meets its contract: its three bytes of information stand from byte 8 on, and the frame around them.
use mathlib.Core.Path.{sym}
use borrow.Author.Rules.{rules}
use Rattle.hdlc_write.proofs.ReplyLaws.{framed}
use Rattle.hdlc_write.proofs.put_frmr.Goals as goal

pub returns : goal.returns
returns c =
    rw (sym c.reject_code.ensures) (framed _ _ _ (search rules) c.put_all-end.ensures c.put_around.ensures)
