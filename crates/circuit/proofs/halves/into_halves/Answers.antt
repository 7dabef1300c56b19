-- The circuit, and one test of all bytes.
use mathlib.Core.Path.{◌≡◌, refl, ◌∙◌}
use mathlib.Core.Bool.{true}
use Prim.Native.Nat.{ℕ}
use lib.Bits.{bit_xor}
use lib.Dec.{eqb}
use Rattle.gf2.specs.Table.{all_below}
use Rattle.planes.specs.declared.Planes.{Planes}
use Rattle.planes.specs.Bits.{bit_at}
use Rattle.planes.specs.Lanes.{joined, lane, bits_at}
use Rattle.planes.proofs.BitLaws.{bit_xor_lem}
use Rattle.planes.proofs.LaneLaws.{bits_of, by_lanes}
use Rattle.sbox.specs.Field.{xtime}
use Rattle.sbox.specs.SboxRule.{times_bits, times}
use Rattle.sbox.specs.Halves.{square, half, whole}
use Rattle.circuit.specs.Layout.{half_at, whole_at}
use Rattle.circuit.specs.declared.halves.Halves.{Halves}
use Rattle.circuit.proofs.HalfLaws.{value_of}
use Rattle.circuit.proofs.halves.into_halves.Goals as goal

circuit : Planes → Halves
circuit p =
    let s = bit_xor p.p0 p.p6 in
    let t = bit_xor p.p5 s in
    let u = bit_xor p.p7 t in
    let v = bit_xor p.p1 p.p2 in
    record {
      low = record {
        a = t;
        b = bit_xor (bit_xor p.p3 s) v;
        c = bit_xor (bit_xor (bit_xor (bit_xor p.p0 p.p1) p.p3) p.p4) p.p7;
        d = p.p0;
      };
      high = record {
        a = bit_xor p.p1 t;
        b = u;
        c = bit_xor u v;
        d = bit_xor p.p4 t;
      };
    }

abbrev byte_of_halves : Halves → ℕ
byte_of_halves h = whole (value_of h.low) (value_of h.high)

at : (j : ℕ) (p : Planes) → whole_at j (circuit p) ≡ byte_of_halves (circuit (bits_at j p))
unfolding half_at whole_at circuit
at j p = simp bit_xor_lem

test : all_below (λ k. eqb (byte_of_halves (circuit (bits_of k))) (joined (bits_of k))) 256 ≡ true
unfolding circuit bit_at whole half square times times_bits xtime
test = refl

law : (j : ℕ) (p : Planes) → whole_at j (circuit p) ≡ lane j p
unfolding lane
law j p = at j p ∙ by_lanes (λ q. byte_of_halves (circuit q)) joined test j p

pub returns : goal.returns
unfolding circuit
returns c = λ j. law j _
