-- One test of all bits: from where the code takes each.
use mathlib.Core.Path.{◌≡◌, refl}
use mathlib.Core.Bool.{true}
use mathlib.Core.List.{List, [], ◌∷◌}
use Rattle.planes.specs.Bits.{bit_at}
use Rattle.planes.proofs.MoveLaws.{Move, moves, by_moves}
use Rattle.planes.proofs.ExchangeLaws.{lower_m, upper_m, word_from, place_from}
use Rattle.planes.proofs.moves.by_fours.Goals as goal

program : List Move
program =
    let l = lower_m 4 0x0f0f0f0f0f0f0f0f in
    let u = upper_m 4 0x0f0f0f0f0f0f0f0f 0xf0f0f0f0f0f0f0f0 in
    l 0 4 ∷ l 1 5 ∷ l 2 6 ∷ l 3 7 ∷ u 0 4 ∷ u 1 5 ∷ u 2 6 ∷ u 3 7 ∷ []

test : moves (word_from 4) (place_from 4) program ≡ true
unfolding bit_at program
test = refl

pub returns : goal.returns
unfolding program
returns c = record { bits = by_moves (word_from 4) (place_from 4) program test _ _ refl }
