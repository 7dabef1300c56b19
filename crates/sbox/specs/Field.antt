-- Arithmetic on bytes (FIPS 197, 4.1 and 4.2): the sum of two bytes is their exclusive or, and the product by x is `xtime`.
-- The products by other bytes that the cipher needs are made of these two.
use Rattle.std.specs.Prelude.{ℕ, ◌*◌, ◌%◌, cond, ltb}
use Rattle.std.specs.Int.Bits.{bit_xor}

-- "xtime", the product by {02}: one place to the left, and {1b} added where a 1 falls out
unfoldable pub xtime : ℕ → ℕ
xtime a = cond (ltb a 128) (a * 2) (bit_xor (a * 2 % 256) 0x1b)

-- the product by {03}
abbrev pub times3 : ℕ → ℕ
times3 a = bit_xor (xtime a) a

-- the sum of four bytes
abbrev pub sum4 : ℕ → ℕ → ℕ → ℕ → ℕ
sum4 a b c d = bit_xor (bit_xor (bit_xor a b) c) d
