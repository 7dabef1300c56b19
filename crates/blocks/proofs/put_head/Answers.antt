-- `blocks::put_head` meets its contract.
use Rattle.wire_write.proofs.WroteLaws.{then}
use Rattle.blocks.proofs.StretchLaws.{flag_byte}
use Rattle.blocks.proofs.put_head.Goals as goal

pub returns : goal.returns
returns c =
    then c.put_all-a.ensures (then c.put-b.ensures (then (rw flag_byte at c.put-c.ensures) c.put_number.ensures))
