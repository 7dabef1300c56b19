-- One test of all bits: from where the code takes each.
use mathlib.Core.Path.{◌≡◌, refl}
use mathlib.Core.Bool.{true}
use Rattle.gf2.specs.Table.{all_below}
use Rattle.planes.specs.Bits.{bit_at}
use Rattle.planes.proofs.MoveLaws.{word, source, is_bit, by_move}
use Rattle.circuit.specs.Layout.{shifted_from}
use Rattle.circuit.proofs.Circuits.{by_one, by_two}
use Rattle.circuit.proofs.turns.shifted.Goals as goal

test : all_below (λ j. is_bit 0 (shifted_from j) (source (by_two (by_one (word 0))) j)) 64 ≡ true
unfolding bit_at by_one by_two
test = refl

pub returns : goal.returns
unfolding by_one by_two
returns c = λ j h. by_move shifted_from (by_two (by_one (word 0))) test j h _
