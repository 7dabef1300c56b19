-- One test of all bits: from where the code takes each.
use mathlib.Core.Path.{◌≡◌, refl}
use mathlib.Core.Bool.{true}
use mathlib.Core.List.{List, [], ◌∷◌}
use Rattle.planes.specs.Bits.{bit_at}
use Rattle.planes.proofs.MoveLaws.{Move, moves, by_moves}
use Rattle.planes.proofs.ExchangeLaws.{lower_m, upper_m, word_from, place_from}
use Rattle.planes.proofs.moves.by_ones.Goals as goal

program : List Move
program =
    let l = lower_m 1 0x5555555555555555 in
    let u = upper_m 1 0x5555555555555555 0xaaaaaaaaaaaaaaaa in
    l 0 1 ∷ u 0 1 ∷ l 2 3 ∷ u 2 3 ∷ l 4 5 ∷ u 4 5 ∷ l 6 7 ∷ u 6 7 ∷ []

test : moves (word_from 1) (place_from 1) program ≡ true
unfolding bit_at program
test = refl

pub returns : goal.returns
unfolding program
returns c = record { bits = by_moves (word_from 1) (place_from 1) program test _ _ refl }
