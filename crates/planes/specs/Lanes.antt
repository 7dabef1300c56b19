-- Lanes: the byte that stands at one place of eight planes; and the bytes of a word.
use Rattle.std.specs.Prelude.{ℕ, ◌+◌, ◌*◌, ◌/◌, ◌%◌, ◌^◌, List, [], ◌∷◌, get_or}
use Rattle.planes.specs.Bits.{bit_at}
use Rattle.planes.specs.declared.Planes.{Planes}

-- the eight words
abbrev pub words_of : Planes → List ℕ
words_of p = p.p0 ∷ p.p1 ∷ p.p2 ∷ p.p3 ∷ p.p4 ∷ p.p5 ∷ p.p6 ∷ p.p7 ∷ []

-- planes of eight words
abbrev pub planes_of : List ℕ → Planes
planes_of w =
    record {
      p0 = get_or w 0 0;
      p1 = get_or w 1 0;
      p2 = get_or w 2 0;
      p3 = get_or w 3 0;
      p4 = get_or w 4 0;
      p5 = get_or w 5 0;
      p6 = get_or w 6 0;
      p7 = get_or w 7 0;
    }

-- f of each word
abbrev pub each_word : (ℕ → ℕ) → Planes → Planes
each_word f p =
    record {
      p0 = f p.p0;
      p1 = f p.p1;
      p2 = f p.p2;
      p3 = f p.p3;
      p4 = f p.p4;
      p5 = f p.p5;
      p6 = f p.p6;
      p7 = f p.p7;
    }

-- R holds of each word of p and the word of q at its place
pub record EachWord (R : ℕ → ℕ → Type 0) (p q : Planes) : Type 0 where
  pub at0 : R p.p0 q.p0
  pub at1 : R p.p1 q.p1
  pub at2 : R p.p2 q.p2
  pub at3 : R p.p3 q.p3
  pub at4 : R p.p4 q.p4
  pub at5 : R p.p5 q.p5
  pub at6 : R p.p6 q.p6
  pub at7 : R p.p7 q.p7

-- the number of eight bits, the first the lowest
abbrev pub joined : Planes → ℕ
joined b = ((((((b.p7 * 2 + b.p6) * 2 + b.p5) * 2 + b.p4) * 2 + b.p3) * 2 + b.p2) * 2 + b.p1) * 2 + b.p0

-- bit j of each plane
abbrev pub bits_at : ℕ → Planes → Planes
bits_at j p = each_word (bit_at j) p

-- lane j: the byte whose bit i is bit j of plane i
unfoldable pub lane : ℕ → Planes → ℕ
lane j p = joined (bits_at j p)

-- byte k of a word, the lowest first
abbrev pub byte_of : ℕ → ℕ → ℕ
byte_of k x = x / 2 ^ (k * 8) % 256

-- the eight bytes of a word, the lowest first
abbrev pub bytes8 : ℕ → List ℕ
bytes8 x =
    x % 256
    ∷ x / 2 ^ 8 % 256
    ∷ x / 2 ^ 16 % 256
    ∷ x / 2 ^ 24 % 256
    ∷ x / 2 ^ 32 % 256
    ∷ x / 2 ^ 40 % 256
    ∷ x / 2 ^ 48 % 256
    ∷ x / 2 ^ 56 % 256
    ∷ []
