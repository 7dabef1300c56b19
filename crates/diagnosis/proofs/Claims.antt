-- `explain` tells the number that the frame call answers.
use mathlib.Core.Path.{refl, ◌∙◌}
use Rattle.meter.specs.View.{view}
use Rattle.call_tests.proofs.Numbers.{right_number}
use Rattle.call_tests.specs.Lines.{line_found}
use Rattle.diagnosis.specs.Claims.{LineTold, SameNumber}

pub same_number : SameNumber
same_number a m before after r h = h.promised.refusal ∙ right_number (view m) a

pub line_told : LineTold
unfolding line_found
line_told m a = refl
