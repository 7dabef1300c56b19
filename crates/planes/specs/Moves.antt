-- Where bytes and bits go that are only moved.
use Rattle.std.specs.Prelude.{ℕ, ◌+◌, ◌-◌, ◌*◌, ◌/◌, ◌%◌, ◌<◌, ◌≡◌, cond, eqb, get_or}
use Rattle.planes.specs.Bits.{bit_at}
use Rattle.planes.specs.Lanes.{words_of, lane, byte_of}
use Rattle.planes.specs.declared.Planes.{Planes}

-- the byte that goes to lane j from words of bytes: byte j / 8 of word j % 8
abbrev pub byte_for : ℕ → Planes → ℕ
byte_for j w = byte_of (j / 8) (get_or (words_of w) (j % 8) 0)

-- bytes and lanes have changed places: byte k of word m and lane 8 k + m
abbrev pub Transposed : Planes → Planes → Type 0
Transposed w r = (j : ℕ) → j < 64 → (lane j r ≡ byte_for j w) × (byte_for j r ≡ lane j w)

-- a number whose digit of weight s in base two is changed for another digit
abbrev pub with_digit : ℕ → ℕ → ℕ → ℕ
with_digit s d n = n - n / s % 2 * s + d * s

-- in the number of a word and the place of a bit the digits of weight s have changed places
pub record Exchanged (s : ℕ) (w r : Planes) : Type 0 where
  pub bits : (i j : ℕ) → i < 8 → j < 64
      → bit_at j (get_or (words_of r) i 0) ≡ bit_at (with_digit s (i / s % 2) j) (get_or (words_of w) (with_digit s (j / s % 2) i) 0)

-- the byte in lane j where bytes of e stand in the lanes 8 k, bytes of o in the lanes 8 k + 4, and 0 in the others
abbrev pub spread_byte : ℕ → ℕ → ℕ → ℕ
spread_byte e o j = cond (eqb (j % 8) 0) (byte_of (j / 8) e) (cond (eqb (j % 8) 4) (byte_of (j / 8) o) 0)

-- the same of the lowest bits of bytes
abbrev pub pair_bit : ℕ → ℕ → ℕ → ℕ
pair_bit e o j = cond (eqb (j % 8) 0) (bit_at (j / 8 * 8) e) (cond (eqb (j % 8) 4) (bit_at (j / 8 * 8) o) 0)
