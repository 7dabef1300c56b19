use Rattle.std.proofs.Common.{◌≡◌, take}
use Rattle.gctr.specs.Gctr.{xor_with}
use Rattle.gctr.proofs.mask.Given as goal

abbrev pub invariant-loop-i : goal.invariant-loop-i
invariant-loop-i l = l.s ≡ xor_with l.initial.s (take l.i l.ks)
