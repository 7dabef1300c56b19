-- A rotation takes bit j from so many places on, round the end.
use borrow.Author.Rules.{rules}
use native.Mathlib.Omega.{arith}
use mathlib.Core.Path.{ap, ◌∙◌}
use Prim.Native.Nat.{◌*◌, ◌<◌, ◌^◌}
use Rattle.planes.specs.Bits.{bit_at}
use Rattle.circuit.proofs.TurnLaws.{bit_turned}
use Rattle.circuit.proofs.turns.fn.turned.map.Goals as goal

pub returns : goal.returns
returns c =
    λ j h.
    let x = c.args.x in
    let k = c.captures.rows * 16 in
    let f : x < 2 ^ 64 = search rules in ap (bit_at j) c.rotate_right.ensures ∙ bit_turned j k x h (omega (arith, c.requires.0)) (omega (arith, c.requires.1)) f
