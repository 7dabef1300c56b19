-- `line::powered_up` meets its contract.
use mathlib.Core.Path.{refl}
use Rattle.line.specs.Left.{started_line}
use Rattle.line.specs.View.{line_of}
use Rattle.line.proofs.LineLaws.{started_wiped}
use Rattle.line.proofs.powered_up.Goals as goal

pub returns : goal.returns
unfolding line_of started_line
returns c = rw c.started.ensures (record { view = refl; wiped = started_wiped _ _ _ _ })
