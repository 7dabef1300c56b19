-- `cosem::shapes::is_range_descriptor` meets its contract: by the parts of a descriptor.
use mathlib.Core.Path.{sym, ◌∙◌}
use borrow.Author.Tests.{ne_eqb}
use Rattle.model.specs.Selecting.{is_range_descriptor}
use Rattle.cosem.proofs.ShapeLaws.{range_parts}
use Rattle.cosem.proofs.shapes.is_range_descriptor.Goals as goal

pub returns-then-v-ne50 : goal.returns-then-v-ne50
unfolding is_range_descriptor
returns-then-v-ne50 c = rw (ne_eqb _ _ c.if-v-ne50.true)

pub returns-then-not-same : goal.returns-then-not-same
returns-then-not-same c =
    let v = c.args.v.now in
    rw (range_parts v c.if-v-ne50.false, sym c.same.ensures ∙ c.if-not-same.true)

pub returns-then-not-same-2 : goal.returns-then-not-same-2
returns-then-not-same-2 c =
    let v = c.args.v.now in
    rw (range_parts v c.if-v-ne50.false, sym c.same.ensures ∙ c.if-not-same.false, sym c.same-2.ensures ∙ c.if-not-same-2.true)

pub returns : goal.returns
returns c =
    let v = c.args.v.now in
    rw (range_parts v c.if-v-ne50.false, sym c.same.ensures ∙ c.if-not-same.false, sym c.same-2.ensures ∙ c.if-not-same-2.false)
    c.same-3.ensures
