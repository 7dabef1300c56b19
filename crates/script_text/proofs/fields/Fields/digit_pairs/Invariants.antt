use Rattle.std.proofs.Common.{◌≡◌, ◌+◌, ◌*◌, length}
use Rattle.script_text.proofs.fields.Fields.digit_pairs.Given as goal

-- Two digits were read for each place.
abbrev pub invariant-loop-count : goal.invariant-loop-count
invariant-loop-count l = length l.fn.self.rest.now ≡ 2 * l.count + length l.self.rest.now
