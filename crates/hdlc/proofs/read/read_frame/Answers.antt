-- `hdlc::read::read_frame` meets its contract.
use Rattle.std.proofs.Common.{sym}
use Rattle.hdlc.proofs.ReadingLaws.{read_short}
use Rattle.hdlc.proofs.read.read_frame.Goals as goal

pub returns-then-frame-lt9 : goal.returns-then-frame-lt9
returns-then-frame-lt9 c = sym (read_short c.args.frame.now c.if-frame-lt9.true)
