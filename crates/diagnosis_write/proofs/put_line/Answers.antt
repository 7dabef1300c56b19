use mathlib.Core.List.{append_assoc}
use Rattle.std.specs.Prelude.{codes}
use Rattle.call_tests.specs.Lines.{decimal, spelled}
use Rattle.wire_write.proofs.WroteLaws.{then}
use Rattle.diagnosis_write.proofs.put_line.Goals as goal

pub returns : goal.returns
unfolding spelled
returns c = rw (append_assoc (decimal c.args.refusal) (codes " ") _) at (then c.put_number-name.ensures c.put_found.ensures)
