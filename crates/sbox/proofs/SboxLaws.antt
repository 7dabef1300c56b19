-- The inverse is one, and the printed substitution table follows the rule, at each of the 256 bytes: one computed test each.
use mathlib.Core.Path.{◌≡◌, refl}
use mathlib.Core.Bool.{true}
use Prim.Native.Nat.{ℕ, zero, suc, ◌<◌}
use native.Mathlib.Nat.{le_of_suc-le-suc, not-suc-le-zero}
use lib.Dec.{eqb}
use borrow.Author.Tests.{eqb-true}
use Rattle.gf2.specs.Table.{every_from, all_below}
use Rattle.gf2.proofs.TableLaws.{entry, below}
use Rattle.sbox.specs.Field.{xtime}
use Rattle.sbox.specs.Sbox.{sbox, sbox_table}
use Rattle.sbox.specs.SboxRule.{times_bits, times, squares, inverse, affine, InverseRule, SboxRule}

-- the products of the bytes from {01} on with their inverses
products : all_below (λ k. eqb (times (suc k) (inverse (suc k))) 1) 255 ≡ true
unfolding inverse squares times times_bits xtime
products = refl

by_product : (a : ℕ) → 0 < a → a < 256 → times a (inverse a) ≡ 1
by_product zero h l = absurd (not-suc-le-zero h)
by_product (suc k) h l =
    eqb-true (times (suc k) (inverse (suc k))) 1 (below (λ k. eqb (times (suc k) (inverse (suc k))) 1) 255 products k (le_of_suc-le-suc l))

pub inverse_rule : InverseRule
unfolding inverse squares times times_bits xtime
inverse_rule = (by_product, refl)

follows : every_from (λ k x. eqb x (affine (inverse k))) 0 sbox_table ≡ true
unfolding sbox_table affine inverse squares times times_bits xtime
follows = refl

pub sbox_rule : SboxRule
unfolding sbox sbox_table
sbox_rule b h = entry (λ k. affine (inverse k)) sbox_table follows b h
