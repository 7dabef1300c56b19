-- Lanes: the bits of a lane, lanes from their bits, and what is done to the planes bit by bit.
use mathlib.Core.Path.{◌≡◌, sym, ap, ◌∙◌}
use mathlib.Core.Bool.{true}
use Prim.Native.Nat.{ℕ, zero, suc, ◌+◌, ◌*◌, ◌/◌, ◌%◌, ◌^◌, ◌<◌}
use native.Mathlib.Omega.{arith}
use lib.Bits.{bit_xor, xor_block}
use lib.Dec.{eqb}
use lib.ListN.{get_or}
use lib.Pow.{shr-shr, mod-pow-add, high, low}
use native.Mathlib.Nat.{div-one, zero-add}
use borrow.Author.Tests.{eqb-true}
use Rattle.gf2.specs.Table.{all_below}
use Rattle.gf2.proofs.TableLaws.{below}
use Rattle.planes.specs.Bits.{bit_at}
use Rattle.planes.specs.Lanes.{EachWord, words_of, joined, bits_at, lane, byte_of}
use Rattle.planes.specs.declared.Planes.{Planes}
use Rattle.planes.proofs.BitLaws.{bit_lt, bit_xor_lem, bit_down}

-- the eight bits of a byte
abbrev pub bits_of : ℕ → Planes
bits_of k =
    record {
      p0 = bit_at 0 k;
      p1 = bit_at 1 k;
      p2 = bit_at 2 k;
      p3 = bit_at 3 k;
      p4 = bit_at 4 k;
      p5 = bit_at 5 k;
      p6 = bit_at 6 k;
      p7 = bit_at 7 k;
    }

-- f of each two words
abbrev pub both_planes : (ℕ → ℕ → ℕ) → Planes → Planes → Planes
both_planes f p q =
    record {
      p0 = f p.p0 q.p0;
      p1 = f p.p1 q.p1;
      p2 = f p.p2 q.p2;
      p3 = f p.p3 q.p3;
      p4 = f p.p4 q.p4;
      p5 = f p.p5 q.p5;
      p6 = f p.p6 q.p6;
      p7 = f p.p7 q.p7;
    }

-- a byte by its bits
from_bits : (y : ℕ) → joined (bits_of y) ≡ y % 256
unfolding bit_at
from_bits y =
    let s : (k m : ℕ) → y / 2 ^ k % 2 ^ (m + 1) ≡ (y / 2 ^ (k + 1) % 2 ^ m) * 2 + y / 2 ^ k % 2 =
    λ k m. mod-pow-add (y / 2 ^ k) m 1 ∙ ap (λ (z : ℕ). z % 2 ^ m * 2 + y / 2 ^ k % 2) (shr-shr y k 1) in
    sym
    (ap (λ (z : ℕ). z % 256) (sym (div-one y))
    ∙ s 0 7
    ∙ ap (λ (z : ℕ). z * 2 + y / 2 ^ 0 % 2) (s 1 6
    ∙ ap (λ (z : ℕ). z * 2 + y / 2 ^ 1 % 2) (s 2 5
    ∙ ap (λ (z : ℕ). z * 2 + y / 2 ^ 2 % 2) (s 3 4
    ∙ ap (λ (z : ℕ). z * 2 + y / 2 ^ 3 % 2) (s 4 3
    ∙ ap (λ (z : ℕ). z * 2 + y / 2 ^ 4 % 2) (s 5 2
    ∙ ap (λ (z : ℕ). z * 2 + y / 2 ^ 5 % 2) (s 6 1)))))))

-- the bits of a number that ends in the bit r
bit_first : (q r : ℕ) → r < 2 → bit_at 0 (q * 2 + r) ≡ r
unfolding bit_at
bit_first q r h = ap (λ (x : ℕ). x % 2) (div-one (q * 2 + r)) ∙ low q 1 h

bit_next : (i q r : ℕ) → r < 2 → bit_at (1 + i) (q * 2 + r) ≡ bit_at i q
unfolding bit_at
bit_next i q r h = ap (λ (x : ℕ). x % 2) (sym (shr-shr (q * 2 + r) 1 i)) ∙ ap (λ (x : ℕ). x / 2 ^ i % 2) (high q 1 h)

bits_joined : (b : Planes) → b.p0 < 2 → b.p1 < 2 → b.p2 < 2 → b.p3 < 2 → b.p4 < 2 → b.p5 < 2 → b.p6 < 2 → b.p7 < 2 → bits_of (joined b) ≡ b
bits_joined b h0 h1 h2 h3 h4 h5 h6 h7 =
    let q7 = b.p7 in
    let q6 = q7 * 2 + b.p6 in
    let q5 = q6 * 2 + b.p5 in
    let q4 = q5 * 2 + b.p4 in
    let q3 = q4 * 2 + b.p3 in
    let q2 = q3 * 2 + b.p2 in
    let q1 = q2 * 2 + b.p1 in
    let n0 : (i : ℕ) → bit_at (1 + i) (joined b) ≡ bit_at i q1 = λ i. bit_next i q1 b.p0 h0 in
    let n1 : (i : ℕ) → bit_at (1 + (1 + i)) (joined b) ≡ bit_at i q2 = λ i. n0 (1 + i) ∙ bit_next i q2 b.p1 h1 in
    let n2 : (i : ℕ) → bit_at (1 + (1 + (1 + i))) (joined b) ≡ bit_at i q3 = λ i. n1 (1 + i) ∙ bit_next i q3 b.p2 h2 in
    let n3 : (i : ℕ) → bit_at (1 + (1 + (1 + (1 + i)))) (joined b) ≡ bit_at i q4 = λ i. n2 (1 + i) ∙ bit_next i q4 b.p3 h3 in
    let n4 : (i : ℕ) → bit_at (1 + (1 + (1 + (1 + (1 + i))))) (joined b) ≡ bit_at i q5 = λ i. n3 (1 + i) ∙ bit_next i q5 b.p4 h4 in
    let n5 : (i : ℕ) → bit_at (1 + (1 + (1 + (1 + (1 + (1 + i)))))) (joined b) ≡ bit_at i q6 = λ i. n4 (1 + i) ∙ bit_next i q6 b.p5 h5 in
    let e0 : bit_at 0 (joined b) ≡ b.p0 = bit_first q1 b.p0 h0 in
    let e1 : bit_at 1 (joined b) ≡ b.p1 = n0 0 ∙ bit_first q2 b.p1 h1 in
    let e2 : bit_at 2 (joined b) ≡ b.p2 = n1 0 ∙ bit_first q3 b.p2 h2 in
    let e3 : bit_at 3 (joined b) ≡ b.p3 = n2 0 ∙ bit_first q4 b.p3 h3 in
    let e4 : bit_at 4 (joined b) ≡ b.p4 = n3 0 ∙ bit_first q5 b.p4 h4 in
    let e5 : bit_at 5 (joined b) ≡ b.p5 = n4 0 ∙ bit_first q6 b.p5 h5 in
    let e6 : bit_at 6 (joined b) ≡ b.p6 = n5 0 ∙ bit_first q7 b.p6 h6 in
    let e7 : bit_at 7 (joined b) ≡ b.p7 = n5 1 ∙ bit_next 0 q7 b.p6 h6 ∙ ap (bit_at 0) (sym (zero-add b.p7)) ∙ bit_first 0 b.p7 h7 in
    simp (e0, e1, e2, e3, e4, e5, e6, e7)

join_xor : (b c : Planes) → b.p0 < 2 → c.p0 < 2 → b.p1 < 2 → c.p1 < 2 → b.p2 < 2 → c.p2 < 2 → b.p3 < 2 → c.p3 < 2 → b.p4 < 2 → c.p4 < 2 → b.p5 < 2 → c.p5 < 2 → b.p6 < 2 → c.p6 < 2
    → bit_xor (joined b) (joined c) ≡ joined (both_planes bit_xor b c)
join_xor b c h0 k0 h1 k1 h2 k2 h3 k3 h4 k4 h5 k5 h6 k6 =
    xor_block 1 _ _ b.p0 c.p0 h0 k0
    ∙ ap (λ (x : ℕ). x * 2 + bit_xor b.p0 c.p0) (xor_block 1 _ _ b.p1 c.p1 h1 k1
    ∙ ap (λ (x : ℕ). x * 2 + bit_xor b.p1 c.p1) (xor_block 1 _ _ b.p2 c.p2 h2 k2
    ∙ ap (λ (x : ℕ). x * 2 + bit_xor b.p2 c.p2) (xor_block 1 _ _ b.p3 c.p3 h3 k3
    ∙ ap (λ (x : ℕ). x * 2 + bit_xor b.p3 c.p3) (xor_block 1 _ _ b.p4 c.p4 h4 k4
    ∙ ap (λ (x : ℕ). x * 2 + bit_xor b.p4 c.p4) (xor_block 1 _ _ b.p5 c.p5 h5 k5
    ∙ ap (λ (x : ℕ). x * 2 + bit_xor b.p5 c.p5) (xor_block 1 _ _ b.p6 c.p6 h6 k6))))))

-- the bits of a lane are the bits of the planes
pub bits_lane : (j : ℕ) (p : Planes) → bits_of (lane j p) ≡ bits_at j p
unfolding lane
bits_lane j p =
    let l0 = bit_lt j p.p0 in
    let l1 = bit_lt j p.p1 in
    let l2 = bit_lt j p.p2 in
    let l3 = bit_lt j p.p3 in
    let l4 = bit_lt j p.p4 in
    let l5 = bit_lt j p.p5 in
    let l6 = bit_lt j p.p6 in
    let l7 = bit_lt j p.p7 in
    bits_joined (bits_at j p) l0 l1 l2 l3 l4 l5 l6 l7

pub lane_lt : (j : ℕ) (p : Planes) → lane j p < 256
unfolding lane
lane_lt j p = omega (arith, bit_lt j p.p0, bit_lt j p.p1, bit_lt j p.p2, bit_lt j p.p3, bit_lt j p.p4, bit_lt j p.p5, bit_lt j p.p6, bit_lt j p.p7)

-- planes xored: lanes xored
pub lane_xor : (j : ℕ) (p q : Planes) → lane j (both_planes bit_xor p q) ≡ bit_xor (lane j p) (lane j q)
unfolding lane
lane_xor j p q =
    simp (bit_xor_lem)
    (sym (join_xor (bits_at j p) (bits_at j q) (bit_lt j p.p0) (bit_lt j q.p0) (bit_lt j p.p1) (bit_lt j q.p1) (bit_lt j p.p2) (bit_lt j q.p2) (bit_lt j p.p3) (bit_lt j q.p3) (bit_lt j p.p4) (bit_lt j q.p4) (bit_lt j p.p5) (bit_lt j q.p5) (bit_lt j p.p6) (bit_lt j q.p6)))

-- bit j of plane i
abbrev pub plane_bit : ℕ → ℕ → Planes → ℕ
plane_bit i j p = bit_at j (get_or (words_of p) i 0)

-- what holds of each of eight holds of all below eight
pub by_eight : (P : ℕ → Type 0) → P 0 → P 1 → P 2 → P 3 → P 4 → P 5 → P 6 → P 7 → (i : ℕ) → i < 8 → P i
by_eight P a b c d e f g h zero l = a
by_eight P a b c d e f g h (suc zero) l = b
by_eight P a b c d e f g h (suc (suc zero)) l = c
by_eight P a b c d e f g h (suc (suc (suc zero))) l = d
by_eight P a b c d e f g h (suc (suc (suc (suc zero)))) l = e
by_eight P a b c d e f g h (suc (suc (suc (suc (suc zero))))) l = f
by_eight P a b c d e f g h (suc (suc (suc (suc (suc (suc zero)))))) l = g
by_eight P a b c d e f g h (suc (suc (suc (suc (suc (suc (suc zero))))))) l = h
by_eight P a b c d e f g h (suc (suc (suc (suc (suc (suc (suc (suc i)))))))) l = absurd (omega arith)

-- a lane by its bits
pub lane_of : (j x : ℕ) (p : Planes) → ((i : ℕ) → i < 8 → plane_bit i j p ≡ bit_at i x) → lane j p ≡ x % 256
unfolding lane
lane_of j x p e =
    let e0 = e 0 (omega arith) in
    let e1 = e 1 (omega arith) in
    let e2 = e 2 (omega arith) in
    let e3 = e 3 (omega arith) in
    let e4 = e 4 (omega arith) in
    let e5 = e 5 (omega arith) in
    let e6 = e 6 (omega arith) in
    let e7 = e 7 (omega arith) in simp (e0, e1, e2, e3, e4, e5, e6, e7) (from_bits x)

-- a byte of a word by its bits
pub byte_is : (k j x : ℕ) (p : Planes) → ((i : ℕ) → i < 8 → bit_at (k * 8 + i) x ≡ plane_bit i j p) → byte_of k x ≡ lane j p
byte_is k j x p e = sym (lane_of j (x / 2 ^ (k * 8)) p (λ i h. sym (bit_down i (k * 8) x ∙ e i h)))

-- a lane that is a byte of a word
pub lane_is : (k j x : ℕ) (p : Planes) → ((i : ℕ) → i < 8 → plane_bit i j p ≡ bit_at (k * 8 + i) x) → lane j p ≡ byte_of k x
lane_is k j x p e = lane_of j (x / 2 ^ (k * 8)) p (λ i h. e i h ∙ sym (bit_down i (k * 8) x))

-- lanes with equal bits, plane by plane
pub lane_each : (j k : ℕ) (p q : Planes)
    → bit_at j p.p0 ≡ bit_at k q.p0 → bit_at j p.p1 ≡ bit_at k q.p1 → bit_at j p.p2 ≡ bit_at k q.p2 → bit_at j p.p3 ≡ bit_at k q.p3
    → bit_at j p.p4 ≡ bit_at k q.p4 → bit_at j p.p5 ≡ bit_at k q.p5 → bit_at j p.p6 ≡ bit_at k q.p6 → bit_at j p.p7 ≡ bit_at k q.p7
    → lane j p ≡ lane k q
unfolding lane
lane_each j k p q e0 e1 e2 e3 e4 e5 e6 e7 = simp (e0, e1, e2, e3, e4, e5, e6, e7)

-- a lane of planes whose words come each from one word, bit j from bit k
pub lane_map : (j k : ℕ) (R : ℕ → ℕ → Type 0) (p q : Planes) → EachWord R p q → ((x y : ℕ) → R x y → bit_at j y ≡ bit_at k x) → lane j q ≡ lane k p
lane_map j k R p q e f =
    lane_each j k q p (f _ _ e.at0) (f _ _ e.at1) (f _ _ e.at2) (f _ _ e.at3) (f _ _ e.at4) (f _ _ e.at5) (f _ _ e.at6) (f _ _ e.at7)

-- what a computed test shows of the bits of all bytes holds in each lane
pub by_lanes : (f g : Planes → ℕ) → all_below (λ k. eqb (f (bits_of k)) (g (bits_of k))) 256 ≡ true → (j : ℕ) (p : Planes) → f (bits_at j p) ≡ g (bits_at j p)
by_lanes f g t j p =
    ap f (sym (bits_lane j p))
    ∙ eqb-true
    (f (bits_of (lane j p)))
    (g (bits_of (lane j p)))
    (below (λ k. eqb (f (bits_of k)) (g (bits_of k))) 256 t (lane j p) (lane_lt j p))
    ∙ ap g (bits_lane j p)
