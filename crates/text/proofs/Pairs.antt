-- The digits of one byte more.
use native.Mathlib.Omega.{arith}
use Rattle.std.proofs.Common.{◌≡◌, ◌+◌, ◌/◌, ◌%◌, ◌<◌, ◌∷◌, ◌++◌, [], ℕ, List, true, length, take, slice_index}
use Rattle.std.proofs.lemmas.Grind.{flat_map-append}
use Rattle.std.proofs.Math.Seq.{take-suc}
use Rattle.std.specs.Fmt.{digit_glyph}
use Rattle.text.specs.Shown.{pairs}

pub pairs-next : (xs : List ℕ) (k : ℕ) → k < length xs → pairs (take k xs) ++ digit_glyph true (slice_index xs k / 16) ∷ digit_glyph true (slice_index xs k % 16) ∷ [] ≡ pairs (take (k + 1) xs)
pairs-next xs k in_range = grind (arith, take-suc xs k 0 in_range, flat_map-append)
