-- `image_write::write_image` meets its contract.
use mathlib.Core.Path.{sym, ◌∙◌}
use native.Mathlib.Omega.{arith}
use Rattle.image.specs.Sizes.{sizes}
use Rattle.image_write.proofs.WritesLaws.{not_written, image_written}
use Rattle.std.proofs.Common.{arith}
use Rattle.image_write.proofs.write_image.Goals as goal

pub returns-then-out-ne-SIZE : goal.returns-then-out-ne-SIZE
returns-then-out-ne-SIZE c = let h = c.if-out-ne-SIZE.true in not_written _ _ (λ e. h (e ∙ sizes.image_size_lem))

pub returns : goal.returns
returns c =
    image_written _ (c.if-out-ne-SIZE.false ∙ sym sizes.image_size_lem) c.put-a.ensures c.put.ensures

pub put-requires : goal.put-requires
put-requires c = let z = sizes in omega arith
