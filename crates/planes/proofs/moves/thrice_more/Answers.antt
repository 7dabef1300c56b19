-- One test of all bits: from where the code takes each.
use mathlib.Core.Path.{◌≡◌, refl}
use mathlib.Core.Bool.{true}
use Prim.Native.Nat.{◌*◌, ◌/◌}
use Rattle.gf2.specs.Table.{all_below}
use Rattle.planes.specs.Bits.{bit_at}
use Rattle.planes.proofs.MoveLaws.{Move, word, up, keep, join, source, is_bit, by_move}
use Rattle.planes.proofs.moves.thrice_more.Goals as goal

program : Move
program =
    let m = keep 0x1111111111111111 (word 0) in
    let t = join m (up 1 m) in join t (up 2 t)

test : all_below (λ j. is_bit 0 (j / 4 * 4) (source program j)) 64 ≡ true
unfolding bit_at program
test = refl

pub returns : goal.returns
unfolding program
returns c = λ j h. by_move (λ j. j / 4 * 4) program test j h _
