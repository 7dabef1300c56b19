-- One test of all bits: from where the code takes each.
use mathlib.Core.Path.{◌≡◌, refl}
use mathlib.Core.Bool.{true}
use mathlib.Core.List.{List, [], ◌∷◌}
use Rattle.planes.specs.Bits.{bit_at}
use Rattle.planes.proofs.MoveLaws.{Move, moves, by_moves}
use Rattle.planes.proofs.ExchangeLaws.{lower_m, upper_m, word_from, place_from}
use Rattle.planes.proofs.moves.by_twos.Goals as goal

program : List Move
program =
    let l = lower_m 2 0x3333333333333333 in
    let u = upper_m 2 0x3333333333333333 0xcccccccccccccccc in
    l 0 2 ∷ l 1 3 ∷ u 0 2 ∷ u 1 3 ∷ l 4 6 ∷ l 5 7 ∷ u 4 6 ∷ u 5 7 ∷ []

test : moves (word_from 2) (place_from 2) program ≡ true
unfolding bit_at program
test = refl

pub returns : goal.returns
unfolding program
returns c = record { bits = by_moves (word_from 2) (place_from 2) program test _ _ refl }
