-- `image::read::U32Readable::read_at` meets its contract: there is room, so a number is found.
use mathlib.Core.Path.{sym, ◌∙◌}
use Rattle.wire.proofs.ReadingLaws.{number_here, number_read, none_never}
use borrow.Author.Rules.{rules}
use Rattle.image.proofs.read.U32Readable.read_at.Goals as goal

pub returns-in-None : goal.returns-in-None
returns-in-None c = let a = c.args in absurd (none_never (sym c.in-None.is ∙ c.number_at.ensures ∙ number_here a.s.now a.at 4 (search rules)))

pub returns-in-Some : goal.returns-in-Some
returns-in-Some c =
    let a = c.args in
    record { is = (number_read a.s.now a.at 4 (sym c.number_at.ensures ∙ c.in-Some.is)).value }
