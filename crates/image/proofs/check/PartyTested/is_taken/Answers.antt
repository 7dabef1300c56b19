-- `image::check::PartyTested::is_taken` meets its contract: its flag, then its phase.
use Rattle.image.proofs.TakenLaws.{party_from, then_second, first_fails}
use Rattle.image.proofs.check.PartyTested.is_taken.Goals as goal

pub returns-then-is_taken : goal.returns-then-is_taken
returns-then-is_taken c = let a = c.args in then_second _ _ (party_from a.s.now a.at) c.is_taken.ensures c.if-is_taken.true c.is_taken-then-is_taken.ensures

pub returns-else-is_taken : goal.returns-else-is_taken
returns-else-is_taken c = let a = c.args in first_fails _ _ (party_from a.s.now a.at) c.is_taken.ensures c.if-is_taken.false
