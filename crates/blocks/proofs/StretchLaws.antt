-- The stretch of the data that a block has: from the blocks before it on, as many bytes as are left, or a full block.
use mathlib.Core.Path.{◌≡◌, refl, sym, ap, ◌∙◌}
use mathlib.Core.Bool.{Bool, true, false, cond}
use mathlib.Core.List.{List}
use Prim.Native.Nat.{ℕ, min, ◌+◌, ◌-◌, ◌*◌, ◌≤◌}
use native.Mathlib.Omega.{arith}
use Rattle.std.proofs.Math.Nat.{min-eq_left, min-eq_right}
use mir.Val.{bool_byte}
use lib.Dec.{leb}
use lib.ListN.{length, take, drop, length-drop}
use lib.Seq.{take_all}
use borrow.Author.Tests.{leb-true, leb-false, le-leb, lt-leb}
use Rattle.wire.proofs.PartLaws.{length_stretch}
use Rattle.model.specs.Limits.{longest_sent, block_room}
use Rattle.model.specs.Objects.{block, is_last}
use Rattle.model.proofs.LimitFacts.{block_room_lem}

pub flag_byte : (b : Bool) → bool_byte b ≡ cond b 1 0
flag_byte true = refl
flag_byte false = refl

module _ (d : List ℕ) (k : ℕ) (least : 1 ≤ k) (begins : block_room longest_sent * (k - 1) ≤ length d) where
  abbrev pub left : ℕ
  left = length d - 732 * (k - 1)

  abbrev pub size : ℕ
  size = min left 732

  pub begins_here : 732 * (k - 1) ≤ length d
  begins_here = rw block_room_lem at begins

  pub last_here : leb left 732 ≡ is_last k d
  unfolding is_last
  last_here = rw block_room_lem (go (leb left 732) refl)
    where
      go : (b : Bool) → leb left 732 ≡ b → b ≡ leb (length d) (732 * k)
      go true e = sym (le-leb (length d) (732 * k) (omega (arith, leb-true left 732 e, begins_here, least)))
      go false e = sym (lt-leb (length d) (732 * k) (omega (arith, leb-false left 732 e, begins_here, least)))

  -- no more than a full block, and no more than is left
  pub size_fits : (size ≤ 732) × (732 * (k - 1) + size ≤ length d)
  size_fits = (omega arith, omega (arith, begins_here))

  pub stretch : take size (drop (732 * (k - 1)) d) ≡ block k d
  unfolding block
  stretch = rw block_room_lem (go (leb left 732) refl)
    where
      go : (b : Bool) → leb left 732 ≡ b → take size (drop (732 * (k - 1)) d) ≡ take 732 (drop (732 * (k - 1)) d)
      go true e =
          let n : length (drop (732 * (k - 1)) d) ≡ left = simp length-drop in
          rw (min-eq_left (leb-true left 732 e))
          (take_all left (drop (732 * (k - 1)) d) (omega (arith, n)) ∙ sym (take_all 732 (drop (732 * (k - 1)) d) (omega (arith, n, leb-true left 732 e))))
      go false e = let m : 732 ≤ left = omega (arith, leb-false left 732 e) in rw (min-eq_right m)

  pub stretch_size : size ≡ length (block k d)
  stretch_size = sym (length_stretch d (732 * (k - 1)) size size_fits.1) ∙ ap length stretch
