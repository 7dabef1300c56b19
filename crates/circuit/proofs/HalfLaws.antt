-- Circuits on planes, lane by lane: what a circuit does to words it does to the bits of each lane, so that a test of all bytes shows it of all lanes.
use mathlib.Core.Path.{◌≡◌, sym, ap, ◌∙◌}
use mathlib.Core.Bool.{true}
use Prim.Native.Nat.{ℕ}
use lib.Dec.{eqb}
use Rattle.gf2.specs.Table.{all_below}
use Rattle.planes.specs.declared.Planes.{Planes}
use Rattle.planes.specs.Bits.{bit_at}
use Rattle.planes.specs.Lanes.{lane, bits_at}
use Rattle.planes.proofs.LaneLaws.{bits_of, bits_lane, lane_lt, by_lanes}
use Rattle.sbox.specs.SboxRule.{inverse}
use Rattle.sbox.specs.Halves.{half, whole, norm}
use Rattle.sbox.proofs.HalvesLaws.{exchanged_times, inverse_halves}
use Rattle.circuit.specs.Layout.{half_at}
use Rattle.circuit.specs.declared.halves.Half.{Half}

-- the eight planes of two halves
abbrev pub planes_of_halves : Half → Half → Planes
planes_of_halves m n = record { p0 = m.a; p1 = m.b; p2 = m.c; p3 = m.d; p4 = n.a; p5 = n.b; p6 = n.c; p7 = n.d }

-- the halves of eight bits
abbrev pub low : Planes → ℕ
low q = half q.p0 q.p1 q.p2 q.p3

abbrev pub high : Planes → ℕ
high q = half q.p4 q.p5 q.p6 q.p7

-- the half of four bits
abbrev pub value_of : Half → ℕ
value_of m = half m.a m.b m.c m.d

-- a circuit on two halves: what it does to words it does to bits, and the test of all halves tells what that is
pub by_halves : (f : Planes → Half) (g : ℕ → ℕ → ℕ) → ((j : ℕ) (q : Planes) → half_at j (f q) ≡ value_of (f (bits_at j q)))
    → all_below (λ k. eqb (value_of (f (bits_of k))) (g (low (bits_of k)) (high (bits_of k)))) 256 ≡ true
    → (j : ℕ) (m n : Half) → half_at j (f (planes_of_halves m n)) ≡ g (half_at j m) (half_at j n)
unfolding half_at
by_halves f g at test j m n =
    at j (planes_of_halves m n) ∙ by_lanes (λ q. value_of (f q)) (λ q. g (low q) (high q)) test j (planes_of_halves m n)

-- the inverse by halves, in a lane
pub inverse_at : (j : ℕ) (m n : Half)
    → exchanged_times (inverse (norm (half_at j m) (half_at j n))) (half_at j m) (half_at j n) ≡ inverse (whole (half_at j m) (half_at j n))
unfolding half_at bit_at
inverse_at j m n =
    let p = planes_of_halves m n in
    let e = bits_lane j p in
    ap (λ (q : Planes). exchanged_times (inverse (norm (low q) (high q))) (low q) (high q)) (sym e)
    ∙ inverse_halves (lane j p) (lane_lt j p)
    ∙ ap (λ (q : Planes). inverse (whole (low q) (high q))) e
