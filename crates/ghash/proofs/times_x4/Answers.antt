-- What the bits that fall out feed back is the table's word, moved up.
use mathlib.Core.Path.{ap, ◌∙◌}
use Prim.Native.Nat.{ℕ, ◌*◌, ◌%◌, ◌/◌, ◌^◌, ◌<◌}
use native.Mathlib.Nat.{mod-eq_of_lt}
use native.Mathlib.Omega.{arith}
use lib.Bits.{bit_xor}
use lib.ListN.{get_or}
use borrow.Author.Rules.{rules}
use Rattle.ghash.proofs.NibbleLaws.{by_feedback}
use Rattle.ghash.proofs.times_x4.Goals as goal

pub returns : goal.returns
returns c =
    let f : get_or c.feedback.result.now (c.args.b % 16) 0 < 2 ^ 64 = search rules in
    let fits : c.from.result * 2 ^ 64 < 2 ^ 128 = omega (arith, c.from.ensures, f) in
    ap (bit_xor (c.args.b / 16)) (mod-eq_of_lt fits ∙ ap (λ (x : ℕ). x * 2 ^ 64) c.from.ensures)
    ∙ by_feedback c.feedback.result.now c.args.b c.feedback.ensures
