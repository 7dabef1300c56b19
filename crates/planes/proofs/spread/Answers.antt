-- Eight words, eight calls: each has a bit of every byte.
use native.Mathlib.Nat.{div-one, zero-div, add_comm}
use mathlib.Core.Path.{◌≡◌, sym, ap, ap₂, ◌∙◌}
use mathlib.Core.Bool.{Bool, true, false, cond}
use Prim.Native.Nat.{ℕ, ◌+◌, ◌*◌, ◌/◌, ◌%◌, ◌^◌, ◌<◌}
use lib.Dec.{eqb}
use Rattle.planes.specs.Bits.{bit_at}
use Rattle.planes.specs.Lanes.{lane, byte_of}
use Rattle.planes.specs.Moves.{pair_bit}
use Rattle.planes.specs.declared.Planes.{Planes}
use Rattle.planes.proofs.BitLaws.{bit_down}
use Rattle.planes.proofs.LaneLaws.{plane_bit, by_eight, lane_of, lane_is}
use Rattle.planes.proofs.spread.Goals as goal

-- bit i of byte k
bit_of_byte : (k i x : ℕ) → bit_at (k * 8) (x / 2 ^ i) ≡ bit_at (k * 8 + i) x
bit_of_byte k i x = bit_down (k * 8) i x ∙ ap (λ (n : ℕ). bit_at n x) (add_comm i (k * 8))

zero_bit : (i : ℕ) → 0 ≡ bit_at i 0
unfolding bit_at
zero_bit i = sym (ap (λ (x : ℕ). x % 2) (zero-div (2 ^ i)))

module _ (e o k j : ℕ) (r : Planes) where
  -- the lane, by whether its byte is one of e, and whether it is one of o
  by_tests : (p q : Bool) → ((i : ℕ) → i < 8 → plane_bit i j r ≡ cond p (bit_at (k * 8) (e / 2 ^ i)) (cond q (bit_at (k * 8) (o / 2 ^ i)) 0))
      → lane j r ≡ cond p (byte_of k e) (cond q (byte_of k o) 0)
  by_tests true q b = lane_is k j e r (λ i h. b i h ∙ bit_of_byte k i e)
  by_tests false true b = lane_is k j o r (λ i h. b i h ∙ bit_of_byte k i o)
  by_tests false false b = lane_of j 0 r (λ i h. b i h ∙ zero_bit i)

pub returns : goal.returns
returns c =
    λ j h.
    let a = c.args in
    let e0 : pair_bit a.e a.o j ≡ pair_bit (a.e / 2 ^ 0) (a.o / 2 ^ 0) j = ap₂ (λ (x y : ℕ). pair_bit x y j) (sym (div-one a.e)) (sym (div-one a.o)) in
    by_tests a.e a.o (j / 8) j _ (eqb (j % 8) 0) (eqb (j % 8) 4)
    (by_eight (λ (i : ℕ). plane_bit i j _ ≡ pair_bit (a.e / 2 ^ i) (a.o / 2 ^ i) j)
    (c.pair_of.ensures j h ∙ e0)
    (c.pair_of-2.ensures j h)
    (c.pair_of-3.ensures j h)
    (c.pair_of-4.ensures j h)
    (c.pair_of-5.ensures j h)
    (c.pair_of-6.ensures j h)
    (c.pair_of-7.ensures j h)
    (c.pair_of-8.ensures j h))
