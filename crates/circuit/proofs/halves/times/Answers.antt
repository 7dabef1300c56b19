-- The circuit, and one test of all halves.
use mathlib.Core.Path.{◌≡◌, refl}
use mathlib.Core.Bool.{true}
use Prim.Native.Nat.{ℕ}
use lib.Bits.{bit_xor, bit_and}
use lib.Dec.{eqb}
use Rattle.gf2.specs.Table.{all_below}
use Rattle.planes.specs.declared.Planes.{Planes}
use Rattle.planes.specs.Bits.{bit_at}
use Rattle.planes.specs.Lanes.{bits_at}
use Rattle.planes.proofs.BitLaws.{bit_xor_lem, bit_and_lem}
use Rattle.planes.proofs.LaneLaws.{bits_of}
use Rattle.sbox.specs.Field.{xtime}
use Rattle.sbox.specs.SboxRule.{times_bits, times}
use Rattle.sbox.specs.Halves.{square, half}
use Rattle.circuit.specs.Layout.{half_at}
use Rattle.circuit.specs.declared.halves.Half.{Half}
use Rattle.circuit.proofs.HalfLaws.{low, high, value_of, by_halves}
use Rattle.circuit.proofs.halves.times.Goals as goal

circuit : Planes → Half
circuit q =
    let f = bit_and (bit_xor q.p0 q.p1) (bit_xor q.p4 q.p5) in
    let g = bit_and (bit_xor q.p2 q.p3) (bit_xor q.p6 q.p7) in
    let s = bit_xor q.p0 q.p2 in
    let t = bit_xor q.p1 q.p3 in
    let u = bit_xor q.p4 q.p6 in
    let v = bit_xor q.p5 q.p7 in
    let h = bit_and (bit_xor s t) (bit_xor u v) in
    let x = bit_xor h (bit_and t v) in
    let y = bit_xor x (bit_xor h (bit_and s u)) in
    record {
      a = bit_xor (bit_xor f (bit_and q.p0 q.p4)) x;
      b = bit_xor (bit_xor f (bit_and q.p1 q.p5)) y;
      c = bit_xor (bit_xor g (bit_and q.p2 q.p6)) x;
      d = bit_xor (bit_xor g (bit_and q.p3 q.p7)) y;
    }

at : (j : ℕ) (q : Planes) → half_at j (circuit q) ≡ value_of (circuit (bits_at j q))
unfolding half_at circuit
at j q = simp (bit_xor_lem, bit_and_lem)

test : all_below (λ k. eqb (value_of (circuit (bits_of k))) (times (low (bits_of k)) (high (bits_of k)))) 256 ≡ true
unfolding circuit bit_at half square times times_bits xtime
test = refl

pub returns : goal.returns
unfolding circuit
returns c = λ j. by_halves circuit times at test j _ _
