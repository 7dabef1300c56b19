-- `image::status_of` meets its contract: the tests, in their order.
use mathlib.Core.Path.{sym, ◌∙◌}
use Rattle.image.proofs.ImageLaws.{other_length, other_version, not_taken, all_passed}
use Rattle.image.specs.Sizes.{sizes}
use Rattle.image.proofs.status_of.Goals as goal

pub returns-then-s-ne-SIZE : goal.returns-then-s-ne-SIZE
returns-then-s-ne-SIZE c = sym (other_length _ (λ e. c.if-s-ne-SIZE.true (e ∙ sizes.image_size_lem)))

pub returns-then-s-ne-VERSION : goal.returns-then-s-ne-VERSION
returns-then-s-ne-VERSION c = sym (other_version _ (c.if-s-ne-SIZE.false ∙ sym sizes.image_size_lem) c.if-s-ne-VERSION.true)

pub returns-then-not-is_taken : goal.returns-then-not-is_taken
returns-then-not-is_taken c =
    sym (not_taken _ (c.if-s-ne-SIZE.false ∙ sym sizes.image_size_lem) c.if-s-ne-VERSION.false (sym c.is_taken.ensures ∙ c.if-not-is_taken.true))

pub returns : goal.returns
returns c =
    sym (all_passed _ (c.if-s-ne-SIZE.false ∙ sym sizes.image_size_lem) c.if-s-ne-VERSION.false (sym c.is_taken.ensures ∙ c.if-not-is_taken.false))
