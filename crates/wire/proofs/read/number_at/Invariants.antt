use Rattle.std.proofs.Common.{◌≡◌, ◌≤◌, length}
use lib.ListN.{take}
use Rattle.wire.specs.Numbers.{number_high}
use Rattle.wire.proofs.read.number_at.Given as goal

-- the number of the bytes that were gone through
abbrev pub invariant-loop-b : goal.invariant-loop-b
invariant-loop-b g l = (l.number ≡ number_high (take l.b-index l.b-items)) × (length l.b-items ≤ 4)
