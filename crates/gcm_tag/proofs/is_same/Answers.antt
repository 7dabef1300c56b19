-- What is gathered, and the bytes that are still to come, decide whether all bytes are the same.
use borrow.Author.Rules.{rules}
use native.Mathlib.Omega.{arith}
use mathlib.Core.Logic.{inl, inr}
use mathlib.Core.Path.{sym, ◌∙◌}
use Rattle.wire.proofs.SameLaws.{same_apart}
use Rattle.gcm_tag.proofs.GatheredLaws.{turn, done}
use Rattle.gcm_tag.proofs.is_same.Goals as goal

pub returns-then-t-ne12 : goal.returns-then-t-ne12
returns-then-t-ne12 c =
    sym (same_apart c.args.r c.args.t.now (λ e. c.if-t-ne12.true (omega arith)))

pub loop-a-preserved : goal.loop-a-preserved
loop-a-preserved c =
    let l = c.loop-a in
    let s = c.in-Some.ensures.steps in
    turn l.d _ _ _ _ _ _ _ s.0 s.1 l.invariant.0 l.invariant.1

pub returns : goal.returns
returns c =
    let l = c.loop-a in
    elim c.in-None.ensures.steps [
      | inl w ↦ done l.d _ _ _ w.1.0 l.invariant.0 l.invariant.1
      | inr w ↦ done l.d _ _ _ (l.invariant.0 ∙ w.1.0) l.invariant.0 l.invariant.1
    ]
