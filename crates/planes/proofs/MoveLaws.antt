-- Programs that only move bits: shifts, masks and unions of words. From where a bit comes is computed from the program alone; one law
-- says that it comes from there, and a test computed over all places does the rest.
use mathlib.Core.Path.{◌≡◌, refl, sym, ap, ap₂, ◌∙◌}
use mathlib.Core.Bool.{Bool, true, false, ◌&&◌, cond, and-eq-true_iff, false≢true}
use mathlib.Core.List.{List, [], ◌∷◌, map}
use Prim.Native.Nat.{ℕ, ◌+◌, ◌-◌, ◌*◌, ◌/◌, ◌%◌, ◌^◌, ◌<◌}
use lib.Bits.{bit_and, bit_or, or_zero_r, and_zero_r}
use lib.Dec.{eqb, ltb}
use lib.ListN.{get_or, get_or-map}
use borrow.Author.Tests.{eqb-true, eqb-false}
use Rattle.gf2.specs.Table.{all_below}
use Rattle.gf2.proofs.TableLaws.{below}
use Rattle.gf2.proofs.XorLaws.{by_bit}
use Rattle.planes.specs.Bits.{bit_at}
use Rattle.planes.specs.Lanes.{words_of}
use Rattle.planes.specs.declared.Planes.{Planes}
use Rattle.planes.proofs.BitLaws.{bit_lt, bit_and_lem, bit_or_lem, bit_down, bit_up, keep_one}

-- a word of the list; a word shifted up or down; the bits of a mask; two words joined
pub data Move : Type 0 where
  word : ℕ → Move
  up : ℕ → Move → Move
  down : ℕ → Move → Move
  keep : ℕ → Move → Move
  join : Move → Move → Move

-- the value over a list of words
abbrev pub value : List ℕ → Move → ℕ
value ws (word m) = get_or ws m 0
value ws (up k e) = value ws e * 2 ^ k % 2 ^ 64
value ws (down k e) = value ws e / 2 ^ k
value ws (keep m e) = bit_and (value ws e) m
value ws (join e f) = bit_or (value ws e) (value ws f)

-- where a bit comes from: nowhere, a bit of a word, or several of these
pub data Source : Type 0 where
  none : Source
  bit : ℕ → ℕ → Source
  more : Source → Source → Source

abbrev pub either : Source → Source → Source
either none t = t
either (bit m b) none = bit m b
either (bit m b) (bit n c) = more (bit m b) (bit n c)
either (bit m b) (more t u) = more (bit m b) (more t u)
either (more r s) none = more r s
either (more r s) (bit n c) = more (more r s) (bit n c)
either (more r s) (more t u) = more (more r s) (more t u)

abbrev pub if_test : Bool → Source → Source
if_test true s = s
if_test false s = none

abbrev pub source : Move → ℕ → Source
source (word m) j = bit m j
source (up k e) j = if_test (ltb j 64) (cond (ltb j k) none (source e (j - k)))
source (down k e) j = source e (k + j)
source (keep m e) j = if_test (eqb (bit_at j m) 1) (source e j)
source (join e f) j = either (source e j) (source f j)

-- the bit that comes from there
abbrev pub bit_from : List ℕ → Source → ℕ
bit_from ws none = 0
bit_from ws (bit m b) = bit_at b (get_or ws m 0)
bit_from ws (more s t) = bit_or (bit_from ws s) (bit_from ws t)

zero_of : (y : ℕ) → y < 2 → (y ≡ 1 → ⊥) → y ≡ 0
zero_of y h n = by_bit (λ (x : ℕ). (x ≡ 1 → ⊥) → x ≡ 0) (λ m. refl) (λ m. absurd (m refl)) y h n

module _ (ws : List ℕ) where
  from_either : (s t : Source) → bit_or (bit_from ws s) (bit_from ws t) ≡ bit_from ws (either s t)
  from_either none t = refl
  from_either (bit m b) none = or_zero_r (bit_at b (get_or ws m 0))
  from_either (bit m b) (bit n c) = refl
  from_either (bit m b) (more t u) = refl
  from_either (more r s) none = or_zero_r (bit_from ws (more r s))
  from_either (more r s) (bit n c) = refl
  from_either (more r s) (more t u) = refl

  from_up : (p q : Bool) (s : Source) → cond p (cond q 0 (bit_from ws s)) 0 ≡ bit_from ws (if_test p (cond q none s))
  from_up true true s = refl
  from_up true false s = refl
  from_up false q s = refl

  from_keep : (p : Bool) (x y : ℕ) (s : Source) → x < 2 → y < 2 → eqb y 1 ≡ p → x ≡ bit_from ws s → bit_and x y ≡ bit_from ws (if_test p s)
  from_keep true x y s h k e q = ap (bit_and x) (eqb-true y 1 e) ∙ keep_one x h ∙ q
  from_keep false x y s h k e q = ap (bit_and x) (zero_of y k (eqb-false y 1 e)) ∙ and_zero_r x

  -- each bit of the value is the bit that the program moves there
  pub bit_of : (e : Move) (j : ℕ) → bit_at j (value ws e) ≡ bit_from ws (source e j)
  bit_of (word m) j = refl
  bit_of (up k e) j =
      bit_up j k (value ws e)
      ∙ ap (λ (x : ℕ). cond (ltb j 64) (cond (ltb j k) 0 x) 0) (bit_of e (j - k))
      ∙ from_up (ltb j 64) (ltb j k) (source e (j - k))
  bit_of (down k e) j = bit_down j k (value ws e) ∙ bit_of e (k + j)
  bit_of (keep m e) j =
      bit_and_lem j (value ws e) m
      ∙ from_keep (eqb (bit_at j m) 1) (bit_at j (value ws e)) (bit_at j m) (source e j) (bit_lt j (value ws e)) (bit_lt j m) refl (bit_of e j)
  bit_of (join e f) j = bit_or_lem j (value ws e) (value ws f) ∙ ap₂ bit_or (bit_of e j) (bit_of f j) ∙ from_either (source e j) (source f j)

-- whether the one source is bit b of word m
abbrev pub is_bit : ℕ → ℕ → Source → Bool
is_bit m b none = false
is_bit m b (bit n c) = eqb n m && eqb c b
is_bit m b (more s t) = false

from_bit : (ws : List ℕ) (m b : ℕ) (s : Source) → is_bit m b s ≡ true → bit_from ws s ≡ bit_at b (get_or ws m 0)
from_bit ws m b none e = absurd (false≢true e)
from_bit ws m b (bit n c) e =
    let p = (and-eq-true_iff (eqb n m) (eqb c b)).0 e in ap₂ (λ (x y : ℕ). bit_at x (get_or ws y 0)) (eqb-true c b p.1) (eqb-true n m p.0)
from_bit ws m b (more s t) e = absurd (false≢true e)

-- what the test computes
pub moved : (ws : List ℕ) (e : Move) (j m b : ℕ) → is_bit m b (source e j) ≡ true → bit_at j (value ws e) ≡ bit_at b (get_or ws m 0)
moved ws e j m b h = bit_of ws e j ∙ from_bit ws m b (source e j) h

-- nothing comes to the place
abbrev pub is_none : Source → Bool
is_none none = true
is_none (bit n c) = false
is_none (more s t) = false

from_none : (ws : List ℕ) (s : Source) → is_none s ≡ true → bit_from ws s ≡ 0
from_none ws none e = refl
from_none ws (bit n c) e = absurd (false≢true e)
from_none ws (more s t) e = absurd (false≢true e)

pub emptied : (ws : List ℕ) (e : Move) (j : ℕ) → is_none (source e j) ≡ true → bit_at j (value ws e) ≡ 0
emptied ws e j h = bit_of ws e j ∙ from_none ws (source e j) h

-- a move of a list; there is no word 8, so that its value is 0
abbrev pub move_at : List Move → ℕ → Move
move_at ms i = get_or ms i (word 8)

-- whether bit j of word i comes from bit g i j of word f i j, for all of them
abbrev pub moves : (f g : ℕ → ℕ → ℕ) → List Move → Bool
moves f g ms = all_below (λ i. all_below (λ j. is_bit (f i j) (g i j) (source (move_at ms i) j)) 64) 8

-- eight words made by moves
pub by_moves : (f g : ℕ → ℕ → ℕ) (ms : List Move) → moves f g ms ≡ true → (w r : Planes) → map (value (words_of w)) ms ≡ words_of r
    → (i j : ℕ) → i < 8 → j < 64 → bit_at j (get_or (words_of r) i 0) ≡ bit_at (g i j) (get_or (words_of w) (f i j) 0)
by_moves f g ms t w r e i j hi hj =
    let row = below (λ i. all_below (λ j. is_bit (f i j) (g i j) (source (move_at ms i) j)) 64) 8 t i hi in
    ap (λ (l : List ℕ). bit_at j (get_or l i 0)) (sym e)
    ∙ ap (bit_at j) (get_or-map (value (words_of w)) ms i (word 8))
    ∙ moved (words_of w) (move_at ms i) j (f i j) (g i j) (below (λ j. is_bit (f i j) (g i j) (source (move_at ms i) j)) 64 row j hj)

-- one word made by moves of another
pub by_move : (s : ℕ → ℕ) (m : Move) → all_below (λ j. is_bit 0 (s j) (source m j)) 64 ≡ true
    → (j : ℕ) → j < 64 → (x : ℕ) → bit_at j (value (x ∷ []) m) ≡ bit_at (s j) x
by_move s m t j h x = moved (x ∷ []) m j 0 (s j) (below (λ j. is_bit 0 (s j) (source m j)) 64 t j h)
