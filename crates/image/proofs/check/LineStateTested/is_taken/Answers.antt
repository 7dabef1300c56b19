-- `image::check::LineStateTested::is_taken` meets its contract: both parties, then the P5 flag.
use mathlib.Core.Path.{refl, ◌∙◌}
use Rattle.image.proofs.TakenLaws.{line_from, then_second, first_fails}
use Rattle.image.proofs.check.LineStateTested.is_taken.Goals as goal
use Rattle.image.proofs.check.LineStateTested.is_taken.Goals.{then-is_taken, else-is_taken}

pub returns-then-is_taken-2 : goal.returns-then-is_taken-2
returns-then-is_taken-2 c =
    let a = c.args in
    then_second _ _ (line_from a.s.now a.at)
    (elim c.if-is_taken.branch [
      | then-is_taken w ↦ w.value-is ∙ then_second _ _ refl c.is_taken.ensures w.if-is_taken.true w.is_taken-then-is_taken.ensures
      | else-is_taken w ↦ w.value-is ∙ first_fails _ _ refl c.is_taken.ensures w.if-is_taken.false
    ])
    c.if-is_taken-2.true c.is_taken-then-is_taken-2.ensures

pub returns-else-is_taken-2 : goal.returns-else-is_taken-2
returns-else-is_taken-2 c =
    let a = c.args in
    first_fails _ _ (line_from a.s.now a.at)
    (elim c.if-is_taken.branch [
      | then-is_taken w ↦ w.value-is ∙ then_second _ _ refl c.is_taken.ensures w.if-is_taken.true w.is_taken-then-is_taken.ensures
      | else-is_taken w ↦ w.value-is ∙ first_fails _ _ refl c.is_taken.ensures w.if-is_taken.false
    ])
    c.if-is_taken-2.false
