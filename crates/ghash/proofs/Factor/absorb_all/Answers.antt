-- What is left of the bytes takes the block so far to the whole hash.
use mathlib.Core.Path.{◌≡◌, ap, ◌∙◌}
use Prim.Native.Nat.{ℕ, min}
use lib.Bits.{bit_xor}
use lib.ListN.{length}
use Rattle.ghash.specs.Product.{product}
use Rattle.ghash.proofs.HashLaws.{turn, done}
use Rattle.ghash.proofs.Factor.absorb_all.Goals as goal

pub loop-part-preserved : goal.loop-part-preserved
loop-part-preserved c =
    let l = c.loop-part in
    let s = c.in-Some.ensures.steps in
    let n : length c.in-Some.part.now ≡ min 16 (length l.part-iterator.rest.now) = s.1.1 ∙ ap (λ (k : ℕ). min k (length l.part-iterator.rest.now)) l.invariant.0 in (
      s.0 ∙ l.invariant.0,
      turn _ l.acc _ _ _ _ _ s.1.0 n s.1.2 (c.times-acc.ensures ∙ ap (λ (p : ℕ). product (bit_xor l.acc p) c.args.self.now.block) c.load.ensures) l.invariant.1,
    )

pub returns : goal.returns
returns c =
    let l = c.loop-part in
    done _ l.acc _ l.part-iterator.rest.now c.in-None.ensures.steps.1.0 l.invariant.1
