-- Bytes as hexadecimal digits.
use Rattle.std.specs.Prelude.{◌/◌, ◌%◌, ◌∷◌, [], ℕ, List, true}
use Rattle.std.specs.List.{flat_map}
use Rattle.std.specs.Fmt.{digit_glyph}

-- The two digits of each byte.
abbrev pub pairs : List ℕ → List ℕ
pairs = flat_map (λ b. digit_glyph true (b / 16) ∷ digit_glyph true (b % 16) ∷ [])
