-- `envelope::challenge::is_right_proof` meets its contract: the tests of its definition, in order.
use mathlib.Core.Path.{sym, ◌∙◌}
use native.Mathlib.Omega.{arith}
use borrow.Author.Rules.{rules}
use Rattle.wire.proofs.ReadingLaws.{number_read}
use Rattle.envelope.specs.Challenge.{right_proof}
use Rattle.envelope.proofs.ShapeLaws.{to_end}
use Rattle.envelope.proofs.challenge.is_right_proof.Goals as goal

pub returns-in_default : goal.returns-in_default
unfolding right_proof
returns-in_default c = rw (sym c.expect_at.ensures, c.in_default.is)

pub returns-in_default-number_at : goal.returns-in_default-number_at
unfolding right_proof
returns-in_default-number_at c =
    rw (sym c.expect_at.ensures, c.in-Some.is, sym c.number_at.ensures, c.in_default-number_at.is)

pub returns-then-not-is_inner_allowed : goal.returns-then-not-is_inner_allowed
unfolding right_proof
returns-then-not-is_inner_allowed c =
    rw (sym c.expect_at.ensures, c.in-Some.is, sym c.number_at.ensures, c.in-Some-number_at.is, sym c.is_inner_allowed.ensures ∙ c.if-not-is_inner_allowed.true)

pub slice_bounds-is_authentic-count : goal.slice_bounds-is_authentic-count
slice_bounds-is_authentic-count c =
    omega (arith, number_read _ _ 4 (sym c.number_at.ensures ∙ c.in-Some-number_at.is))

pub slice_bounds-is_authentic-start : goal.slice_bounds-is_authentic-start
slice_bounds-is_authentic-start c =
    let r = number_read _ _ 4 (sym c.number_at.ensures ∙ c.in-Some-number_at.is) in
    search rules

pub returns : goal.returns
unfolding right_proof
returns c =
    rw (sym c.expect_at.ensures, c.in-Some.is, sym c.number_at.ensures, c.in-Some-number_at.is, sym c.is_inner_allowed.ensures ∙ c.if-not-is_inner_allowed.false, ← c.nonce-n.ensures, ← c.proof_data-data.ensures, ← to_end)
    c.is_authentic.ensures
