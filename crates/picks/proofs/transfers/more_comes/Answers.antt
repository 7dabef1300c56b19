-- `picks::transfers::more_comes` meets its contract.
use native.Mathlib.Omega.{arith}
use borrow.Author.Tests.{lt-ltb, le-ltb, le-leb, lt-leb}
use Rattle.model.proofs.LimitFacts.{data_room_lem, block_room_lem}
use Rattle.picks.proofs.transfers.more_comes.Goals.{then-size-gt-DATA_ROOM, else-size-gt-DATA_ROOM}
use Rattle.picks.proofs.transfers.more_comes.Goals as goal

pub returns-then-block-ge1 : goal.returns-then-block-ge1
returns-then-block-ge1 c =
    let k = c.if-block-ge1.true in
    rw (data_room_lem, block_room_lem, lt-ltb _ _ k.0, le-leb _ _ k.1)

pub returns-else-block-ge1 : goal.returns-else-block-ge1
returns-else-block-ge1 c =
    elim c.if-size-gt-DATA_ROOM.branch [
      | then-size-gt-DATA_ROOM w ↦ rw (w.t-4-is, data_room_lem, lt-ltb _ _ w.if-size-gt-DATA_ROOM.true, lt-leb 1 c.args.block (omega (arith, c.if-block-ge1.either)))
      | else-size-gt-DATA_ROOM w ↦ rw (w.t-4-is, data_room_lem, le-ltb _ _ w.if-size-gt-DATA_ROOM.false)
    ]
