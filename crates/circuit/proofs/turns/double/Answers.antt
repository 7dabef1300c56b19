-- The circuit, and one test of all bytes.
use mathlib.Core.Path.{◌≡◌, refl, ap, ◌∙◌}
use mathlib.Core.Bool.{true}
use Prim.Native.Nat.{ℕ}
use lib.Bits.{bit_xor}
use lib.Dec.{eqb}
use Rattle.gf2.specs.Table.{all_below}
use Rattle.planes.specs.declared.Planes.{Planes}
use Rattle.planes.specs.Bits.{bit_at}
use Rattle.planes.specs.Lanes.{joined, lane, bits_at}
use Rattle.planes.proofs.BitLaws.{bit_xor_lem}
use Rattle.planes.proofs.LaneLaws.{bits_of, by_lanes}
use Rattle.sbox.specs.Field.{xtime}
use Rattle.circuit.proofs.turns.double.Goals as goal

circuit : Planes → Planes
circuit p =
    record {
      p0 = p.p7;
      p1 = bit_xor p.p0 p.p7;
      p2 = p.p1;
      p3 = bit_xor p.p2 p.p7;
      p4 = bit_xor p.p3 p.p7;
      p5 = p.p4;
      p6 = p.p5;
      p7 = p.p6;
    }

at : (j : ℕ) (p : Planes) → bits_at j (circuit p) ≡ circuit (bits_at j p)
unfolding circuit
at j p = simp bit_xor_lem

test : all_below (λ k. eqb (joined (circuit (bits_of k))) (xtime (joined (bits_of k)))) 256 ≡ true
unfolding bit_at circuit xtime
test = refl

law : (j : ℕ) (p : Planes) → lane j (circuit p) ≡ xtime (lane j p)
unfolding lane
law j p = ap joined (at j p) ∙ by_lanes (λ q. joined (circuit q)) (λ q. xtime (joined q)) test j p

pub returns : goal.returns
unfolding circuit
returns c = λ j. law j _
