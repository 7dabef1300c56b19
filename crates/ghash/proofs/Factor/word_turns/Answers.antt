-- After i turns r is what the last 4 * i bits of w gave, from z on.
use native.Mathlib.Omega.{arith}
use mathlib.Core.Path.{◌≡◌, refl, ap, ◌∙◌}
use Prim.Native.Nat.{ℕ, ◌*◌}
use Rattle.gf2.specs.Shift.{steps}
use Rattle.ghash.specs.Product.{turns}
use Rattle.ghash.specs.Nibble.{turns_from}
use Rattle.ghash.proofs.NibbleLaws.{turn}
use Rattle.ghash.proofs.Factor.word_turns.Goals as goal

pub loop-i-init : goal.loop-i-init
unfolding turns steps
loop-i-init c = refl

pub loop-i-preserved : goal.loop-i-preserved
loop-i-preserved c =
    let l = c.loop-i in
    turn l.i c.args.w c.args.self.now.block c.args.z l.r _ l.invariant c.turns-r.ensures

pub returns : goal.returns
returns c =
    let l = c.loop-i in
    let e : 4 * l.i ≡ 64 = omega arith in
    l.invariant ∙ ap (λ (k : ℕ). turns_from c.args.z k c.args.w c.args.self.now.block) e
