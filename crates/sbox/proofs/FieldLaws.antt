-- The product by x is linear on bytes.
use mathlib.Core.Path.{◌≡◌, refl, sym, ap, ap₂, ◌∙◌}
use mathlib.Core.Bool.{true}
use Prim.Native.Nat.{ℕ, ◌*◌, ◌/◌, ◌%◌, ◌<◌}
use native.Mathlib.Nat.{add-zero}
use native.Mathlib.Omega.{arith}
use lib.Bits.{bit_xor, xor_mod, xor_shr, xor_block, xor_lt}
use lib.Dec.{eqb}
use borrow.Author.Tests.{eqb-true}
use Rattle.gf2.specs.Table.{all_below}
use Rattle.gf2.proofs.TableLaws.{below}
use Rattle.gf2.proofs.XorLaws.{by_bit, xor_four}
use Rattle.sbox.specs.Field.{xtime}

-- without a test: the low bits moved up, and {1b} times the highest
flat : all_below (λ a. eqb (bit_xor (a % 128 * 2) (a / 128 * 0x1b)) (xtime a)) 256 ≡ true
unfolding xtime
flat = refl

xtime_flat : (a : ℕ) → a < 256 → bit_xor (a % 128 * 2) (a / 128 * 0x1b) ≡ xtime a
xtime_flat a h =
    eqb-true
    (bit_xor (a % 128 * 2) (a / 128 * 0x1b))
    (xtime a)
    (below (λ a. eqb (bit_xor (a % 128 * 2) (a / 128 * 0x1b)) (xtime a)) 256 flat a h)

by_27 : (x : ℕ) → x < 2 → (y : ℕ) → y < 2 → bit_xor x y * 0x1b ≡ bit_xor (x * 0x1b) (y * 0x1b)
by_27 =
    by_bit (λ (x : ℕ). (y : ℕ) → y < 2 → bit_xor x y * 0x1b ≡ bit_xor (x * 0x1b) (y * 0x1b))
    (by_bit (λ (y : ℕ). bit_xor 0 y * 0x1b ≡ bit_xor (0 * 0x1b) (y * 0x1b)) refl refl)
    (by_bit (λ (y : ℕ). bit_xor 1 y * 0x1b ≡ bit_xor (1 * 0x1b) (y * 0x1b)) refl refl)

pub xtime_xor : (a b : ℕ) → a < 256 → b < 256 → xtime (bit_xor a b) ≡ bit_xor (xtime a) (xtime b)
xtime_xor a b ha hb =
    let c = bit_xor a b in
    let hc : c < 256 = xor_lt 8 a b ha hb in
    let low : c % 128 * 2 ≡ bit_xor (a % 128 * 2) (b % 128 * 2) =
    ap (λ (x : ℕ). x * 2) (xor_mod a b 7)
    ∙ sym (add-zero (bit_xor (a % 128) (b % 128) * 2))
    ∙ sym (xor_block 1 (a % 128) (b % 128) 0 0 (omega arith) (omega arith))
    ∙ ap₂ bit_xor (add-zero (a % 128 * 2)) (add-zero (b % 128 * 2)) in
    let high : c / 128 * 0x1b ≡ bit_xor (a / 128 * 0x1b) (b / 128 * 0x1b) =
    ap (λ (x : ℕ). x * 0x1b) (xor_shr a b 7) ∙ by_27 (a / 128) (omega arith) (b / 128) (omega arith) in
    sym (xtime_flat c hc)
    ∙ ap₂ bit_xor low high
    ∙ xor_four (a % 128 * 2) (b % 128 * 2) (a / 128 * 0x1b) (b / 128 * 0x1b)
    ∙ ap₂ bit_xor (xtime_flat a ha) (xtime_flat b hb)
