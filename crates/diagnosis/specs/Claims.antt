-- "The real call gives this number" (document 02, Q-2), of the functions as they run: whatever `p2::receive` hands back of a meter and
-- what is lent by its own promise, its number is the one that `explain` tells of the same. That this is the number of the first failing
-- test, that all before it pass, and the rest of 02's claims stand in call_tests/specs/Claims and Places.
use Rattle.std.specs.Prelude.{◌≡◌, List, ℕ}
use Rattle.model.specs.State.{Model}
use Rattle.model.specs.Calls.{Lent}
use Rattle.meter.specs.declared.Meter.{Meter}
use Rattle.meter.specs.View.{view}
use Rattle.ending.specs.declared.Received.{Received}
use Rattle.call_tests.specs.Tests.{found}
use Rattle.call_tests.specs.Lines.{line_found, name_found, spelled}
use Rattle.p2.specs.Promise.{Answered}
use Rattle.diagnosis.specs.Promise.{explained}

abbrev pub SameNumber : Type 0
SameNumber =
    (a : Lent) (m : Meter) (before after : List ℕ) (r : Received)
    → Answered a m before after r
    → r.refusal ≡ (explained (view m) a).refusal

-- what is told, written as `put_line` writes it, is the line of what was found
abbrev pub LineTold : Type 0
LineTold =
    (m : Model) (a : Lent)
    → spelled (explained m a).refusal (name_found (explained m a).finding) (explained m a).place ≡ line_found (found m a) a.received
