-- What is lent to a frame call, test by test: refusals 1 and 2.
use mathlib.Core.Path.{◌≡◌, refl, sym}
use mathlib.Core.Bool.{Bool, true, false, cond, not}
use mathlib.Core.List.{List, []}
use Prim.Native.Nat.{ℕ, ◌≤◌}
use native.Mathlib.Omega.{arith}
use lib.Dec.{eqb, ltb}
use lib.ListN.{length}
use borrow.Author.Tests.{ltb-false, eqb-true}
use Rattle.model.specs.Limits.{longest_sent, reply_room}
use Rattle.model.specs.Calls.{lent_refusal}
use Rattle.p2.specs.Promise.{lent}

-- the frame is no part of it
pub lent_told : (n : ℕ) (g k c f : List ℕ) {x : ℕ} → x ≡ lent_refusal (lent n g k c []) → lent_refusal (lent n g k c f) ≡ x
unfolding lent_refusal
lent_told n g k c f e = sym e

-- what is lent is taken: its lengths
pub record LentRight (n : ℕ) (g k c : List ℕ) : Type 0 where
  pub room : reply_room longest_sent ≤ n
  pub guk : length g ≡ 16
  pub ak : length k ≡ 16
  pub challenge : length c ≡ 8

pub lent_lengths : (n : ℕ) (g k c f : List ℕ) → lent_refusal (lent n g k c f) ≡ 0 → LentRight n g k c
unfolding lent_refusal
lent_lengths n g k c f = go (ltb n (reply_room longest_sent)) (eqb (length g) 16) (eqb (length k) 16) (eqb (length c) 8) refl refl refl refl
  where
    go : (w x y z : Bool) → ltb n (reply_room longest_sent) ≡ w → eqb (length g) 16 ≡ x → eqb (length k) 16 ≡ y → eqb (length c) 8 ≡ z
        → ◌≡◌ {A = ℕ} (cond w 1 (cond (not x) 2 (cond (not y) 2 (cond (not z) 2 0)))) 0
        → LentRight n g k c
    go true x y z p q r s e = absurd (omega arith)
    go false false y z p q r s e = absurd (omega arith)
    go false true false z p q r s e = absurd (omega arith)
    go false true true false p q r s e = absurd (omega arith)
    go false true true true p q r s e = record { room = ltb-false _ _ p; guk = eqb-true _ _ q; ak = eqb-true _ _ r; challenge = eqb-true _ _ s }
