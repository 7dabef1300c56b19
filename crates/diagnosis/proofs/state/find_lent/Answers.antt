-- `diagnosis::state::find_lent` meets its contract.
use mathlib.Core.Path.{refl, ap}
use borrow.Author.Tests.{lt-ltb, le-ltb, eq-eqb, ne_eqb}
use Rattle.std.specs.Prelude.{Err}
use Rattle.model.proofs.LimitFacts.{reply_room_lem}
use Rattle.call_tests.specs.Tests.{first_failing}
use Rattle.call_tests.specs.Road.{lent_finds}
use Rattle.diagnosis.proofs.state.find_lent.Goals as goal

pub returns-then-room-lt-REPLY_ROOM : goal.returns-then-room-lt-REPLY_ROOM
unfolding lent_finds first_failing
returns-then-room-lt-REPLY_ROOM c m f =
    rw (reply_room_lem, lt-ltb _ 779 c.if-room-lt-REPLY_ROOM.true) (ap Err c.into.ensures)

pub returns-then-guk-ne16 : goal.returns-then-guk-ne16
unfolding lent_finds first_failing
returns-then-guk-ne16 c m f =
    rw (reply_room_lem, le-ltb _ 779 c.if-room-lt-REPLY_ROOM.false, ne_eqb _ _ c.if-guk-ne16.true) (ap Err c.into-then-guk-ne16.ensures)

pub returns-then-ak-ne16 : goal.returns-then-ak-ne16
unfolding lent_finds first_failing
returns-then-ak-ne16 c m f =
    rw (reply_room_lem, le-ltb _ 779 c.if-room-lt-REPLY_ROOM.false, eq-eqb _ _ c.if-guk-ne16.false, ne_eqb _ _ c.if-ak-ne16.true) (ap Err c.into-then-ak-ne16.ensures)

pub returns-then-challenge-ne8 : goal.returns-then-challenge-ne8
unfolding lent_finds first_failing
returns-then-challenge-ne8 c m f =
    rw (reply_room_lem, le-ltb _ 779 c.if-room-lt-REPLY_ROOM.false, eq-eqb _ _ c.if-guk-ne16.false, eq-eqb _ _ c.if-ak-ne16.false, ne_eqb _ _ c.if-challenge-ne8.true) (ap Err c.into-then-challenge-ne8.ensures)

pub returns : goal.returns
unfolding lent_finds first_failing
returns c m f =
    rw (reply_room_lem, le-ltb _ 779 c.if-room-lt-REPLY_ROOM.false, eq-eqb _ _ c.if-guk-ne16.false, eq-eqb _ _ c.if-ak-ne16.false, eq-eqb _ _ c.if-challenge-ne8.false) refl
