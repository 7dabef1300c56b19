-- From a value to its elements the remaining depth falls.
use Rattle.std.proofs.Common.{◌≡◌, ◌+◌, ◌-◌, ◌*◌}
use Rattle.axdr.specs.Values.{elements_end, value_within}
use Rattle.axdr.proofs.+elements_end_value_within.Given as goal

abbrev pub decreases-elements_end : goal.decreases-elements_end
decreases-elements_end l = l.depth * 2 + 1

abbrev pub decreases-value_within : goal.decreases-value_within
decreases-value_within l = l.depth * 2

-- what is left of the elements ends where all of them do
abbrev pub invariant-elements_end-loop : goal.invariant-elements_end-loop
invariant-elements_end-loop l = elements_end (value_within l.depth l.s) (l.count - l.counter) l.next ≡ elements_end (value_within l.depth l.s) l.count l.at
