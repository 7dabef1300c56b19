-- `image::read::U16Readable::read_at` meets its contract: there is room, so a number is found.
use mathlib.Core.Path.{sym, ◌∙◌}
use native.Mathlib.Omega.{arith}
use Rattle.wire.proofs.ReadingLaws.{number_here, number_read, none_never, number_small}
use borrow.Author.Rules.{rules}
use Rattle.image.proofs.read.U16Readable.read_at.Goals as goal

pub returns-in-None : goal.returns-in-None
returns-in-None c = let a = c.args in absurd (none_never (sym c.in-None.is ∙ c.number_at.ensures ∙ number_here a.s.now a.at 2 (search rules)))

pub overflow_cast-result : goal.overflow_cast-result
overflow_cast-result c =
    let a = c.args in
    omega (arith, number_small 2 a.s.now a.at c.type_inv.s (number_read a.s.now a.at 2 (sym c.number_at.ensures ∙ c.in-Some.is)))

pub returns-in-Some : goal.returns-in-Some
returns-in-Some c =
    let a = c.args in
    record { is = (number_read a.s.now a.at 2 (sym c.number_at.ensures ∙ c.in-Some.is)).value }
