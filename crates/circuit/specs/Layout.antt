-- Where bytes stand in the lanes of planes, what the transformations of FIPS 197, 5.1, make of them, and how a byte is held by its halves.
use Rattle.std.specs.Prelude.{ℕ, ◌+◌, ◌*◌, ◌/◌, ◌%◌, ◌<◌, ◌≡◌}
use Rattle.planes.specs.Bits.{bit_at}
use Rattle.planes.specs.Lanes.{lane}
use Rattle.planes.specs.declared.Planes.{Planes}
use Rattle.sbox.specs.Field.{xtime, times3, sum4}
use Rattle.sbox.specs.Sbox.{sbox}
use Rattle.sbox.specs.Halves.{half, whole}
use Rattle.circuit.specs.declared.halves.Half.{Half}
use Rattle.circuit.specs.declared.halves.Halves.{Halves}

-- the lane of the byte in row r and column c of block b
abbrev pub lane_of : ℕ → ℕ → ℕ → ℕ
lane_of r c b = r * 16 + c * 4 + b

-- "SubBytes": in each lane the substitute, by the printed table
abbrev pub Substituted : Planes → Planes → Type 0
Substituted p s = (j : ℕ) → j < 64 → lane j s ≡ sbox (lane j p)

-- "ShiftRows": s'[r, c] = s[r, (c + r) mod 4], in each block
abbrev pub RowsShifted : Planes → Planes → Type 0
RowsShifted p s = (r c b : ℕ) → r < 4 → c < 4 → b < 4 → lane (lane_of r c b) s ≡ lane (lane_of r ((c + r) % 4) b) p

-- "MixColumns": {02} times the byte, {03} times the one below it, and the two below that, round the end of the column
abbrev pub ColumnsMixed : Planes → Planes → Type 0
ColumnsMixed p s = (r c b : ℕ) → r < 4 → c < 4 → b < 4
    → lane (lane_of r c b) s
    ≡ sum4 (xtime (lane (lane_of r c b) p)) (times3 (lane (lane_of ((r + 1) % 4) c b) p)) (lane (lane_of ((r + 2) % 4) c b) p) (lane (lane_of ((r + 3) % 4) c b) p)

-- the lane from which ShiftRows takes: in row r the byte r columns on, round the end
abbrev pub shifted_from : ℕ → ℕ
shifted_from j = lane_of (j / 16) ((j / 4 % 4 + j / 16) % 4) (j % 4)

-- the half in lane j, and the byte in lane j that is held by its halves
unfoldable pub half_at : ℕ → Half → ℕ
half_at j m = half (bit_at j m.a) (bit_at j m.b) (bit_at j m.c) (bit_at j m.d)

unfoldable pub whole_at : ℕ → Halves → ℕ
whole_at j h = whole (half_at j h.low) (half_at j h.high)
