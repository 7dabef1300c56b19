-- The circuit, and one test of all halves.
use mathlib.Core.Path.{◌≡◌, refl}
use mathlib.Core.Bool.{true}
use Prim.Native.Nat.{ℕ}
use lib.Bits.{bit_xor}
use lib.Dec.{eqb}
use Rattle.gf2.specs.Table.{all_below}
use Rattle.planes.specs.declared.Planes.{Planes}
use Rattle.planes.specs.Bits.{bit_at}
use Rattle.planes.specs.Lanes.{bits_at}
use Rattle.planes.proofs.BitLaws.{bit_xor_lem}
use Rattle.planes.proofs.LaneLaws.{bits_of}
use Rattle.sbox.specs.Field.{xtime}
use Rattle.sbox.specs.SboxRule.{times_bits, times}
use Rattle.sbox.specs.Halves.{square, half, scaled_square}
use Rattle.circuit.specs.Layout.{half_at}
use Rattle.circuit.proofs.HalfLaws.{low, high, value_of, by_halves}
use Rattle.circuit.proofs.Circuits.{scaled_square_circuit}
use Rattle.circuit.proofs.halves.scaled_square.Goals as goal

at : (j : ℕ) (q : Planes) → half_at j (scaled_square_circuit q) ≡ value_of (scaled_square_circuit (bits_at j q))
unfolding half_at scaled_square_circuit
at j q = simp bit_xor_lem

test : all_below (λ k. eqb (value_of (scaled_square_circuit (bits_of k))) (scaled_square (bit_xor (low (bits_of k)) (high (bits_of k))))) 256 ≡ true
unfolding scaled_square_circuit bit_at half square times times_bits xtime scaled_square
test = refl

pub returns : goal.returns
unfolding scaled_square_circuit
returns c = λ j. by_halves scaled_square_circuit (λ m n. scaled_square (bit_xor m n)) at test j _ _
