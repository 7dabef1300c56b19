use Rattle.std.proofs.Common.{◌≡◌, ◌++◌, take, drop}
use Rattle.gctr.specs.Gctr.{gctr}
use Rattle.gctr.proofs.encipher.Given as goal

-- what stands before place at is done, and GCTR of the rest from the present counter on completes it
abbrev pub invariant-loop-at : goal.invariant-loop-at
invariant-loop-at l = take l.at l.s ++ gctr l.w l.nonce l.k (drop l.at l.s) ≡ gctr l.w l.nonce l.c l.initial.s
