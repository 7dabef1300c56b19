-- The circuit, and one test of all halves.
use mathlib.Core.Path.{◌≡◌, refl}
use mathlib.Core.Bool.{true}
use Prim.Native.Nat.{ℕ}
use lib.Bits.{bit_xor}
use lib.Dec.{eqb}
use Rattle.gf2.specs.Table.{all_below}
use Rattle.planes.specs.declared.Planes.{Planes}
use Rattle.planes.specs.Bits.{bit_at}
use Rattle.planes.specs.Lanes.{bits_at}
use Rattle.planes.proofs.BitLaws.{bit_xor_lem}
use Rattle.planes.proofs.LaneLaws.{bits_of}
use Rattle.sbox.specs.Field.{xtime}
use Rattle.sbox.specs.SboxRule.{times_bits, times}
use Rattle.sbox.specs.Halves.{square, half}
use Rattle.circuit.specs.Layout.{half_at}
use Rattle.circuit.specs.declared.halves.Half.{Half}
use Rattle.circuit.proofs.HalfLaws.{low, high, value_of, by_halves}
use Rattle.circuit.proofs.halves.HalfBitXor.bitxor.Goals as goal

circuit : Planes → Half
circuit q =
    record {
      a = bit_xor q.p0 q.p4;
      b = bit_xor q.p1 q.p5;
      c = bit_xor q.p2 q.p6;
      d = bit_xor q.p3 q.p7;
    }

at : (j : ℕ) (q : Planes) → half_at j (circuit q) ≡ value_of (circuit (bits_at j q))
unfolding half_at circuit
at j q = simp bit_xor_lem

test : all_below (λ k. eqb (value_of (circuit (bits_of k))) (bit_xor (low (bits_of k)) (high (bits_of k)))) 256 ≡ true
unfolding circuit bit_at half square times times_bits xtime
test = refl

pub returns : goal.returns
unfolding circuit
returns c = λ j. by_halves circuit bit_xor at test j _ _
