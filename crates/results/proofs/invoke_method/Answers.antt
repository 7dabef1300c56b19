-- `results::invoke_method` meets its contract: by the tests in their order.
use mathlib.Core.Path.{sym, ◌∙◌}
use borrow.Author.Tests.{eq-eqb, ne_eqb}
use Rattle.std.proofs.lemmas.Result.{err_from_is_err_and}
use Rattle.model.specs.Objects.{method_invoked}
use Rattle.results.proofs.ResultLaws.{not_found}
use Rattle.results.proofs.invoke_method.Goals as goal

pub returns-in_err-object : goal.returns-in_err-object
unfolding method_invoked
returns-in_err-object c =
    let p = err_from_is_err_and c.from_residual.result c.from_residual.ensures.1 in
    let n = not_found c.in_err-object.ensures.value in
    rw (p.1, p.2, n.1, n.0)

pub returns-then-query-object : goal.returns-then-query-object
unfolding method_invoked
returns-then-query-object c = rw (c.in_ok-object.ensures.ok_part, ne_eqb _ _ c.if-query-object.true)

pub returns-then-not-serves : goal.returns-then-not-serves
unfolding method_invoked
returns-then-not-serves c =
    rw (c.in_ok-object.ensures.ok_part, eq-eqb _ _ c.if-query-object.false, sym c.serves.ensures ∙ c.if-not-serves.true)

pub returns-then-not-is_good : goal.returns-then-not-is_good
unfolding method_invoked
returns-then-not-is_good c =
    rw (c.in_ok-object.ensures.ok_part, eq-eqb _ _ c.if-query-object.false, sym c.serves.ensures ∙ c.if-not-serves.false, sym c.is_good.ensures ∙ c.if-not-is_good.true)

pub returns : goal.returns
unfolding method_invoked
returns c =
    rw (c.in_ok-object.ensures.ok_part, eq-eqb _ _ c.if-query-object.false, sym c.serves.ensures ∙ c.if-not-serves.false, sym c.is_good.ensures ∙ c.if-not-is_good.false)
