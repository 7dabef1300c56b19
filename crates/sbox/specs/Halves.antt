-- The inverse of a byte by halves, in a tower of fields: 256 elements over sixteen, those over four, and those over two, in the normal bases (Y, Y^16),
-- (Z, Z^4) and (W, W^2). Every element stays a byte of FIPS 197's field, with its sum and its product "•", so that nothing has to be
-- believed of the smaller fields: a half is a sum of some of four fixed bytes, and a byte is made of two halves. `proofs/HalvesLaws` has what is said here of W, Z, Y and the norm.
use Rattle.std.specs.Prelude.{ℕ}
use Rattle.std.specs.Int.Bits.{bit_xor}
use Rattle.gf2.specs.Shift.{if_bit}
use Rattle.sbox.specs.SboxRule.{times}

-- W^2 + W + 1 = 0, Z^2 + Z + W = 0, Y^2 + Y + W^2 Z = 0
abbrev pub W : ℕ
W = 0xbc

abbrev pub Z : ℕ
Z = 0x5c

abbrev pub Y : ℕ
Y = 0xff

-- the square
unfoldable pub square : ℕ → ℕ
square a = times a a

-- Z^4 and Y^16
abbrev pub Z4 : ℕ
Z4 = square (square Z)

abbrev pub Y16 : ℕ
Y16 = square (square (square (square Y)))

-- the quarter of two bits: one of four bytes
abbrev pub quarter : ℕ → ℕ → ℕ
quarter a b = bit_xor (if_bit a W) (if_bit b (square W))

-- the half of four bits: one of sixteen bytes
unfoldable pub half : ℕ → ℕ → ℕ → ℕ → ℕ
half a b c d = bit_xor (times (quarter a b) Z) (times (quarter c d) Z4)

-- the byte of two halves
unfoldable pub whole : ℕ → ℕ → ℕ
whole m n = bit_xor (times m Y) (times n Y16)

-- what is added to the product of two halves, by their sum, to make the norm of the byte
unfoldable pub scaled_square : ℕ → ℕ
scaled_square s = times (times (square W) Z) (square s)

-- the norm of a byte, by its halves: the product of the byte and its sixteenth power
unfoldable pub norm : ℕ → ℕ → ℕ
norm m n = bit_xor (times m n) (scaled_square (bit_xor m n))
