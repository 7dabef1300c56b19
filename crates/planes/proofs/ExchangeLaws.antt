-- The three exchanges make the whole one: byte k of word m and lane 8 k + m change places.
use mathlib.Core.Path.{◌≡◌, refl, ap₂, ◌∙◌}
use mathlib.Core.Bool.{Bool, true, ◌&&◌, and-eq-true_iff}
use Prim.Native.Nat.{ℕ, ◌+◌, ◌*◌, ◌/◌, ◌%◌, ◌<◌}
use native.Mathlib.Omega.{arith}
use lib.Dec.{eqb, ltb}
use lib.ListN.{get_or}
use borrow.Author.Tests.{eqb-true, ltb-true}
use Rattle.gf2.specs.Table.{all_below}
use Rattle.gf2.proofs.TableLaws.{below}
use Rattle.planes.specs.Lanes.{words_of, lane}
use Rattle.planes.specs.Moves.{byte_for, with_digit, Exchanged}
use Rattle.planes.specs.declared.Planes.{Planes}
use Rattle.planes.proofs.MoveLaws.{Move, word, up, down, keep, join}
use Rattle.planes.proofs.LaneLaws.{plane_bit, lane_is, byte_is}

-- the two words that exchange the parts of a mask by s places
abbrev pub lower_m : ℕ → ℕ → ℕ → ℕ → Move
lower_m s m a b = join (keep m (word a)) (up s (keep m (word b)))

abbrev pub upper_m : ℕ → ℕ → ℕ → ℕ → ℕ → Move
upper_m s m n a b = join (keep m (down s (word a))) (keep n (word b))

-- where bit j of word i comes from: the word, and the bit
abbrev pub word_from : ℕ → ℕ → ℕ → ℕ
word_from s i j = with_digit s (j / s % 2) i

abbrev pub place_from : ℕ → ℕ → ℕ → ℕ
place_from s i j = with_digit s (i / s % 2) j

-- all three, one after the other
abbrev path : ℕ → ℕ → Bool
path i j =
    let i1 = word_from 4 i j in
    let j1 = place_from 4 i j in
    let i2 = word_from 2 i1 j1 in
    let j2 = place_from 2 i1 j1 in
    (ltb i1 8 && ltb j1 64) && ((ltb i2 8 && ltb j2 64) && (eqb (word_from 1 i2 j2) (j % 8) && eqb (place_from 1 i2 j2) (j / 8 * 8 + i)))

paths : all_below (λ i. all_below (path i) 64) 8 ≡ true
paths = refl

module _ (w a b r : Planes) (ones : Exchanged 1 w a) (twos : Exchanged 2 a b) (fours : Exchanged 4 b r) where
  -- bit j of word i comes from word j % 8, from the same byte and its bit i
  exchanged : (i j : ℕ) → i < 8 → j < 64 → plane_bit i j r ≡ plane_bit (j % 8) (j / 8 * 8 + i) w
  exchanged i j hi hj =
      let i1 = word_from 4 i j in
      let j1 = place_from 4 i j in
      let i2 = word_from 2 i1 j1 in
      let j2 = place_from 2 i1 j1 in
      let t = (and-eq-true_iff (ltb i1 8 && ltb j1 64) _).0 (below (path i) 64 (below (λ i. all_below (path i) 64) 8 paths i hi) j hj) in
      let u = (and-eq-true_iff (ltb i1 8) (ltb j1 64)).0 t.0 in
      let v = (and-eq-true_iff (ltb i2 8 && ltb j2 64) _).0 t.1 in
      let x = (and-eq-true_iff (ltb i2 8) (ltb j2 64)).0 v.0 in
      let y = (and-eq-true_iff (eqb (word_from 1 i2 j2) (j % 8)) (eqb (place_from 1 i2 j2) (j / 8 * 8 + i))).0 v.1 in
      fours.bits i j hi hj
      ∙ twos.bits i1 j1 (ltb-true i1 8 u.0) (ltb-true j1 64 u.1)
      ∙ ones.bits i2 j2 (ltb-true i2 8 x.0) (ltb-true j2 64 x.1)
      ∙ ap₂ (λ (m n : ℕ). plane_bit m n w) (eqb-true (word_from 1 i2 j2) (j % 8) y.0) (eqb-true (place_from 1 i2 j2) (j / 8 * 8 + i) y.1)

  pub lanes : (j : ℕ) → j < 64 → lane j r ≡ byte_for j w
  lanes j h = lane_is (j / 8) j (get_or (words_of w) (j % 8) 0) r (λ i l. exchanged i j l h)

  pub bytes : (j : ℕ) → j < 64 → byte_for j r ≡ lane j w
  bytes j h =
      byte_is (j / 8) j (get_or (words_of r) (j % 8) 0) w
      (λ i l.
      let m = j % 8 in
      let a = j / 8 * 8 in
      let p : (a + i) / 8 * 8 + m ≡ j = omega arith in
      let q : (a + i) % 8 ≡ i = omega arith in
      exchanged m (a + i) (omega arith) (omega arith) ∙ ap₂ (λ (n k : ℕ). plane_bit k n w) p q)
