-- The circuit, and one test of all halves.
use mathlib.Core.Path.{◌≡◌, refl, sym, ap, ◌∙◌}
use mathlib.Core.Bool.{true}
use Prim.Native.Nat.{ℕ, ◌%◌, ◌^◌, ◌<◌}
use native.Mathlib.Omega.{arith}
use native.Mathlib.Nat.{zero-div}
use lib.Bits.{bit_xor, bit_and}
use lib.Dec.{eqb}
use borrow.Author.Tests.{eqb-true}
use Rattle.gf2.specs.Table.{all_below}
use Rattle.gf2.proofs.TableLaws.{below}
use Rattle.planes.specs.declared.Planes.{Planes}
use Rattle.planes.specs.Bits.{bit_at}
use Rattle.planes.specs.Lanes.{lane}
use Rattle.planes.proofs.BitLaws.{bit_lt, bit_xor_lem, bit_and_lem}
use Rattle.planes.proofs.LaneLaws.{bits_lane}
use Rattle.sbox.specs.Field.{xtime}
use Rattle.sbox.specs.SboxRule.{times_bits, times, squares, inverse}
use Rattle.sbox.specs.Halves.{square, half}
use Rattle.circuit.specs.Layout.{half_at}
use Rattle.circuit.specs.declared.halves.Half.{Half}
use Rattle.circuit.proofs.HalfLaws.{planes_of_halves, value_of}
use Rattle.circuit.proofs.halves.inverse_half.Goals as goal

circuit : Half → Half
circuit m =
    let s = bit_xor m.a m.c in
    let t = bit_xor s (bit_xor m.b m.d) in
    let f = bit_and (bit_xor m.a m.b) (bit_xor m.c m.d) in
    let i = bit_xor (bit_xor f (bit_and m.b m.d)) t in
    let k = bit_xor (bit_xor f (bit_and m.a m.c)) s in
    let g = bit_and (bit_xor i k) (bit_xor m.c m.d) in
    let h = bit_and (bit_xor i k) (bit_xor m.a m.b) in
    record {
      a = bit_xor g (bit_and i m.c);
      b = bit_xor g (bit_and k m.d);
      c = bit_xor h (bit_and i m.a);
      d = bit_xor h (bit_and k m.b);
    }

-- the four bits of a lane, and of a number
abbrev bits_in : ℕ → Half → Half
bits_in j m = record { a = bit_at j m.a; b = bit_at j m.b; c = bit_at j m.c; d = bit_at j m.d }

abbrev four_bits : ℕ → Half
four_bits k = record { a = bit_at 0 k; b = bit_at 1 k; c = bit_at 2 k; d = bit_at 3 k }

at : (j : ℕ) (m : Half) → half_at j (circuit m) ≡ value_of (circuit (bits_in j m))
unfolding half_at circuit
at j m = simp (bit_xor_lem, bit_and_lem)

test : all_below (λ k. eqb (value_of (circuit (four_bits k))) (inverse (value_of (four_bits k)))) 16 ≡ true
unfolding circuit bit_at half square inverse squares times times_bits xtime
test = refl

none : Half
none = record { a = 0; b = 0; c = 0; d = 0 }

no_bit : (j : ℕ) → bit_at j 0 ≡ 0
unfolding bit_at
no_bit j = ap (λ (x : ℕ). x % 2) (zero-div (2 ^ j))

-- four planes and four empty ones: a number below 16 in each lane
below_16 : (j : ℕ) (m : Half) → lane j (planes_of_halves m none) < 16
unfolding lane none
below_16 j m = omega (arith, no_bit j, bit_lt j m.a, bit_lt j m.b, bit_lt j m.c, bit_lt j m.d)

law : (j : ℕ) (m : Half) → half_at j (circuit m) ≡ inverse (half_at j m)
unfolding half_at
law j m =
    let k = lane j (planes_of_halves m none) in
    let e = ap (λ (q : Planes). value_of (record { a = q.p0; b = q.p1; c = q.p2; d = q.p3 })) (bits_lane j (planes_of_halves m none)) in
    at j m
    ∙ ap (λ (q : Planes). value_of (circuit (record { a = q.p0; b = q.p1; c = q.p2; d = q.p3 }))) (sym (bits_lane j (planes_of_halves m none)))
    ∙ eqb-true (value_of (circuit (four_bits k))) (inverse (value_of (four_bits k))) (below (λ k. eqb (value_of (circuit (four_bits k))) (inverse (value_of (four_bits k)))) 16 test k (below_16 j m))
    ∙ ap inverse e

pub returns : goal.returns
unfolding circuit
returns c = λ j. law j _
