use Rattle.std.proofs.Common.{◌≡◌, List, ℕ, ◌++◌, take, drop}
use Rattle.gcm.proofs.copy.Given as goal

-- the first i bytes of l are those of s
abbrev pub begun : List ℕ → List ℕ → ℕ → List ℕ
begun s l i = take i s ++ drop i l

abbrev pub invariant-loop-i : goal.invariant-loop-i
invariant-loop-i l = l.out ≡ begun l.c l.initial.out l.i
