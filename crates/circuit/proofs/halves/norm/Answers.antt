-- Product, scaled square and sum.
use mathlib.Core.Path.{ap₂, ◌∙◌}
use lib.Bits.{bit_xor}
use Rattle.sbox.specs.Halves.{norm}
use Rattle.circuit.proofs.halves.norm.Goals as goal

pub returns : goal.returns
unfolding norm
returns c = λ j. c.bitxor.ensures j ∙ ap₂ bit_xor (c.times.ensures j) (c.scaled_square.ensures j)
