-- `results::read_attribute` meets its contract: by the tests in their order.
use mathlib.Core.Path.{refl, sym, ◌∙◌}
use borrow.Author.Tests.{eq-eqb, ne_eqb}
use Rattle.std.proofs.lemmas.Result.{err_from_is_err_and}
use Rattle.model.specs.Objects.{attribute_read}
use Rattle.model.specs.State.{idle}
use Rattle.body.specs.View.{body_of}
use Rattle.body.proofs.BodyLaws.{sound_fits}
use Rattle.results.proofs.ResultLaws.{not_found}
use Rattle.results.proofs.read_attribute.Goals as goal

pub returns-in_err-object : goal.returns-in_err-object
unfolding attribute_read
returns-in_err-object c =
    let p = err_from_is_err_and c.from_residual.result c.from_residual.ensures.1 in
    let n = not_found c.in_err-object.ensures.value in
    rw (p.1, p.2, n.1, n.0) (record { starts = idle; means = refl; writable = tt })

pub returns-then-query-object : goal.returns-then-query-object
unfolding attribute_read
returns-then-query-object c =
    rw (c.in_ok-object.ensures.ok_part, ne_eqb _ _ c.if-query-object.true) (record { starts = idle; means = refl; writable = tt })

pub returns-then-not-serves : goal.returns-then-not-serves
unfolding attribute_read
returns-then-not-serves c =
    rw (c.in_ok-object.ensures.ok_part, eq-eqb _ _ c.if-query-object.false, sym c.serves.ensures ∙ c.if-not-serves.true)
    (record { starts = idle; means = refl; writable = tt })

pub pick_rows-requires : goal.pick_rows-requires
pick_rows-requires c = (sound_fits c.args.body c.requires).rows

pub returns-in_err-which : goal.returns-in_err-which
unfolding attribute_read body_of
returns-in_err-which c =
    let p = err_from_is_err_and c.from_residual-in_err-which.result c.from_residual-in_err-which.ensures.1 in
    rw (p.1, p.2, c.in_ok-object.ensures.ok_part, eq-eqb _ _ c.if-query-object.false, sym c.serves.ensures ∙ c.if-not-serves.false, sym (c.takes_selector-belongs.ensures c.args.query.name), sym c.in_err-which.ensures)
    (record { starts = idle; means = refl; writable = tt })

pub returns : goal.returns
unfolding attribute_read body_of
returns c =
    rw (c.in_ok-object.ensures.ok_part, eq-eqb _ _ c.if-query-object.false, sym c.serves.ensures ∙ c.if-not-serves.false, sym (c.takes_selector-belongs.ensures c.args.query.name), sym c.in_ok-which.ensures)
    (c.show.ensures _ c.in_ok-which.ensures)
