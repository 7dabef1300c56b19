-- `line::new_line` meets its contract.
use Rattle.model.specs.State.{new_meter}
use Rattle.line.specs.Left.{started_line}
use Rattle.line.specs.View.{line_of}
use Rattle.line.proofs.new_line.Goals as goal

pub returns : goal.returns
unfolding line_of new_meter started_line
returns c = rw c.started.ensures
