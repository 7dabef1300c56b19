-- The sums of a block and of its products by x, x^2 and x^3 are its products by four bits.
use mathlib.Core.Path.{◌∙◌}
use Rattle.ghash.proofs.NibbleLaws.{nibble_sums}
use Rattle.ghash.proofs.Factor.of.Goals as goal

pub invariant_of-result : goal.invariant_of-result
invariant_of-result c = record {
  right = record { rule = c.sums.ensures ∙ nibble_sums _ _ _ _ c.times_x-b.ensures c.times_x-c.ensures c.times_x-d.ensures };
}
