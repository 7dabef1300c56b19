use mathlib.Core.Path.{◌≡◌}
use Prim.Native.Nat.{◌≤◌}
use lib.ListN.{drop}
use Rattle.fcs.specs.Check.{check_from}
use Rattle.fcs.proofs.check.Given as goal

abbrev pub invariant-loop-b : goal.invariant-loop-b
invariant-loop-b l = (l.c ≤ 0xFFFF) × (check_from l.c (drop l.b-index l.s) ≡ check_from 0xFFFF l.s)
