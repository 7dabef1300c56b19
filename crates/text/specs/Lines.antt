-- The lines of a text.
use Rattle.std.specs.Prelude.{◌≡◌, ◌≢◌, ◌<◌, ◌⊎◌, ◌++◌, ◌∷◌, ℕ, List, length}
use Rattle.std.specs.List.{All}

-- A text that is not empty is this line and the rest: the line has no line end, and one stands between them, or the line is all.
abbrev pub IsFirstLine : List ℕ → List ℕ → List ℕ → Type 0
IsFirstLine text line rest =
    (0 < length text)
    × All (λ c. c ≢ 10) line
    × ((text ≡ line ++ 10 ∷ rest) ⊎ ((text ≡ line) × (length rest ≡ 0)))
