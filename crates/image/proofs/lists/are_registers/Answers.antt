-- `image::lists::are_registers` meets its contract: the length, then the rights.
use borrow.Author.Tests.{ne_eqb}
use Rattle.image.specs.Layout.{register_part}
use Rattle.image.proofs.ListLaws.{not_whole, whole_by}
use Rattle.image.specs.Sizes.{sizes}
use Rattle.image.proofs.lists.are_registers.Goals as goal

pub returns-then-s-eq0 : goal.returns-then-s-eq0
returns-then-s-eq0 c = whole_by register_part sizes.register_size _ c.if-s-eq0.true c.each_taken.ensures

pub returns-else-s-eq0 : goal.returns-else-s-eq0
returns-else-s-eq0 c = rw (ne_eqb _ _ c.if-s-eq0.false) (not_whole register_part sizes.register_size _ c.if-s-eq0.false)
