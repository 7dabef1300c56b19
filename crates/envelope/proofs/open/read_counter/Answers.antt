-- `envelope::open::read_counter` meets its contract: the counter ends within the APDU.
use mathlib.Core.Path.{sym, ◌∙◌}
use native.Mathlib.Omega.{arith}
use Rattle.wire.proofs.ReadingLaws.{number_read}
use Rattle.envelope.proofs.open.read_counter.Goals as goal

pub overflow_sub-all : goal.overflow_sub-all
overflow_sub-all c =
    omega (arith, number_read _ _ 4 (sym c.number_at.ensures ∙ c.in_ok-counter.was))
