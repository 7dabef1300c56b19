-- The circuit, and one test of all bytes.
use mathlib.Core.Path.{◌≡◌, refl, ap, ◌∙◌}
use mathlib.Core.Bool.{true}
use Prim.Native.Nat.{ℕ, ◌<◌}
use lib.Dec.{eqb}
use borrow.Author.Tests.{eqb-true}
use Rattle.gf2.specs.Table.{all_below}
use Rattle.gf2.proofs.TableLaws.{below}
use Rattle.planes.specs.declared.Planes.{Planes}
use Rattle.planes.specs.Bits.{bit_at}
use Rattle.planes.specs.Lanes.{joined, lane, bits_at}
use Rattle.planes.proofs.BitLaws.{bit_xor_lem}
use Rattle.planes.proofs.LaneLaws.{bits_of, by_lanes}
use Rattle.sbox.specs.Field.{xtime}
use Rattle.sbox.specs.SboxRule.{times_bits, times, affine}
use Rattle.sbox.specs.Halves.{square, half, whole}
use Rattle.circuit.specs.Layout.{half_at, whole_at}
use Rattle.circuit.specs.declared.halves.Halves.{Halves}
use Rattle.circuit.proofs.HalfLaws.{planes_of_halves, low, high}
use Rattle.circuit.proofs.Circuits.{affine_circuit}
use Rattle.circuit.proofs.halves.affine_out.Goals as goal

-- a 1 in each lane
abbrev all_ones : ℕ
all_ones = 0xffffffffffffffff

at : (j one : ℕ) (q : Planes) → lane j (affine_circuit one q) ≡ joined (affine_circuit (bit_at j one) (bits_at j q))
unfolding lane affine_circuit
at j one q = simp bit_xor_lem

test : all_below (λ k. eqb (joined (affine_circuit 1 (bits_of k))) (affine (whole (low (bits_of k)) (high (bits_of k))))) 256 ≡ true
unfolding affine_circuit bit_at affine whole half square times times_bits xtime
test = refl

ones : all_below (λ j. eqb (bit_at j all_ones) 1) 64 ≡ true
unfolding bit_at
ones = refl

law : (j : ℕ) → j < 64 → (h : Halves) → lane j (affine_circuit all_ones (planes_of_halves h.low h.high)) ≡ affine (whole_at j h)
unfolding half_at whole_at
law j l h =
    let q = planes_of_halves h.low h.high in
    at j all_ones q
    ∙ ap (λ (o : ℕ). joined (affine_circuit o (bits_at j q))) (eqb-true (bit_at j all_ones) 1 (below (λ j. eqb (bit_at j all_ones) 1) 64 ones j l))
    ∙ by_lanes (λ q. joined (affine_circuit 1 q)) (λ q. affine (whole (low q) (high q))) test j q

pub returns : goal.returns
unfolding affine_circuit
returns c = λ j l. law j l _
