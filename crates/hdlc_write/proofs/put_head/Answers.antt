-- `hdlc_write::put_head` meets its contract: its writes join.
use Rattle.wire_write.proofs.WroteLaws.{then}
use Rattle.hdlc.specs.Layout.{head_bytes}
use Rattle.hdlc_write.proofs.put_head.Goals as goal

pub returns : goal.returns
unfolding head_bytes
returns c = then (then c.put-format.ensures c.put_number-addresses.ensures) c.put_all.ensures
