-- In a lane: twice the sum of the byte and the one below it, the one below it, and the two below that.
use native.Mathlib.Omega.{arith}
use mathlib.Core.Path.{◌≡◌, sym, ap, ap₂, ◌∙◌}
use Prim.Native.Nat.{ℕ, ◌+◌, ◌%◌, ◌<◌}
use lib.Bits.{bit_xor}
use Rattle.gf2.proofs.XorLaws.{xor_assoc}
use Rattle.planes.specs.Lanes.{lane}
use Rattle.planes.proofs.LaneLaws.{lane_lt}
use Rattle.sbox.specs.Field.{xtime, times3, sum4}
use Rattle.sbox.proofs.FieldLaws.{xtime_xor}
use Rattle.circuit.specs.Layout.{lane_of}
use Rattle.circuit.proofs.LayoutLaws.{lane_in, one_on, two_on, three_on}
use Rattle.circuit.proofs.mix_columns.Goals as goal

sum_of : (a b c d : ℕ) → a < 256 → b < 256 → bit_xor (bit_xor (xtime (bit_xor a b)) b) (bit_xor c d) ≡ sum4 (xtime a) (times3 b) c d
sum_of a b c d ha hb =
    ap (λ (x : ℕ). bit_xor (bit_xor x b) (bit_xor c d)) (xtime_xor a b ha hb)
    ∙ ap (λ (x : ℕ). bit_xor x (bit_xor c d)) (xor_assoc (xtime a) (xtime b) b)
    ∙ sym (xor_assoc (bit_xor (xtime a) (times3 b)) c d)

pub returns : goal.returns
returns c =
    λ r k b hr hk hb.
    let p = c.args.p in
    let j = lane_of r k b in
    let h = lane_in r k b hr hk hb in
    let i = (j + 32) % 64 in
    let l : i < 64 = omega arith in
    let below = c.turned-below.ensures j h in
    let e : (m n o : ℕ) → m ≡ lane_of ((r + 1) % 4) k b → n ≡ lane_of ((r + 2) % 4) k b → o ≡ lane_of ((r + 3) % 4) k b
    → sum4 (xtime (lane j p)) (times3 (lane m p)) (lane n p) (lane o p)
    ≡ sum4 (xtime (lane j p)) (times3 (lane (lane_of ((r + 1) % 4) k b) p)) (lane (lane_of ((r + 2) % 4) k b) p) (lane (lane_of ((r + 3) % 4) k b) p) =
    λ m n o x y z. cc in
    c.bitxor-2.ensures j
    ∙ ap₂ bit_xor
    (c.bitxor.ensures j ∙ ap₂ bit_xor (c.double.ensures j ∙ ap xtime (c.bitxor-both.ensures j ∙ ap (bit_xor (lane j p)) below)) below)
    (c.turned.ensures j h ∙ c.bitxor-both.ensures i ∙ ap (bit_xor (lane i p)) (c.turned-below.ensures i l))
    ∙ sum_of (lane j p) (lane ((j + 16) % 64) p) (lane i p) (lane ((i + 16) % 64) p) (lane_lt j p) (lane_lt ((j + 16) % 64) p)
    ∙ e ((j + 16) % 64) i ((i + 16) % 64) (one_on r k b hr hk hb) (two_on r k b hr hk hb) (three_on r k b hr hk hb)
