use Rattle.std.proofs.Common.{◌-◌, ◌≤◌, length}
use Rattle.script_calls.proofs.session.Lines.feed.Given as goal

abbrev pub invariant-loop-end : goal.invariant-loop-end
invariant-loop-end g l = (l.at ≤ l.end) × (l.end ≤ length l.input)

abbrev pub decreases-loop-end : goal.decreases-loop-end
decreases-loop-end g l = length l.input - l.end
