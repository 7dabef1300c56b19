-- `image::check::BodyStateTested::is_taken` meets its contract: its registers, then its transfer.
use Rattle.image.proofs.TakenLaws.{body_from, then_second, first_fails}
use Rattle.image.proofs.check.BodyStateTested.is_taken.Goals as goal

pub returns-then-each_taken : goal.returns-then-each_taken
returns-then-each_taken c = let a = c.args in then_second _ _ (body_from a.s.now a.at) c.each_taken.ensures c.if-each_taken.true c.is_taken.ensures

pub returns-else-each_taken : goal.returns-else-each_taken
returns-else-each_taken c = let a = c.args in first_fails _ _ (body_from a.s.now a.at) c.each_taken.ensures c.if-each_taken.false
