-- `cosem::tags::tag_in` meets its contract: the first byte, as a number of one byte, is a byte.
use Rattle.std.proofs.Common.{sym, ◌∙◌, arith}
use Rattle.wire.proofs.ReadingLaws.{number_read, number_small}
use Rattle.cosem.proofs.tags.tag_in.Goals as goal

pub overflow_cast-first : goal.overflow_cast-first
overflow_cast-first c = omega (arith, number_small 1 c.args.apdu.now 0 c.type_inv.apdu (number_read _ 0 1 (sym c.number_at.ensures ∙ c.in-Some.is)))
