-- `answers::put_head` meets its contract.
use Rattle.wire_write.proofs.WroteLaws.{then}
use Rattle.answers.proofs.put_head.Goals as goal

pub returns : goal.returns
returns c =
    then (then (then c.put-a.ensures c.put-b.ensures) c.put-c.ensures) c.put.ensures
