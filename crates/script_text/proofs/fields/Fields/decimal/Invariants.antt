use Rattle.std.proofs.Common.{◌≤◌, length}
use Rattle.script_text.proofs.fields.Fields.decimal.Given as goal

abbrev pub invariant-loop-self : goal.invariant-loop-self
invariant-loop-self l = l.number ≤ l.most

abbrev pub decreases-loop-self : goal.decreases-loop-self
decreases-loop-self l = length l.self.rest.now
