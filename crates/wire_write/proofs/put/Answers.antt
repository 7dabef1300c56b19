-- `wire_write::put` meets its contract.
use Rattle.wire_write.proofs.WroteLaws.{stored}
use Rattle.wire_write.proofs.put.Goals as goal

pub returns : goal.returns
returns c = stored _ _ _ c.requires
