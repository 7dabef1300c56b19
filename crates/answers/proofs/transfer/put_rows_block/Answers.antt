-- `answers::transfer::put_rows_block` meets its contract: the data were written from the first byte on.
use native.Mathlib.Omega.{arith}
use Rattle.store.proofs.Lengths.{rows_long}
use Rattle.picks.proofs.Lengths.{clocks_long}
use Rattle.answers.proofs.TransferLaws.{rows_most, written_part}
use Rattle.answers.proofs.transfer.put_rows_block.Goals as goal

pub put_rows-size-requires : goal.put_rows-size-requires
put_rows-size-requires c =
    let a = c.args in
    let even = c.requires.0 in
    let is = c.well_formed.1.1.1.1.0 in
    (even, omega (arith, rows_most a.rows even.0 even.1 (rows_long a.rows _ is) (clocks_long a.rows _ is) a.which))

pub returns : goal.returns
returns c =
    rw (written_part c.put_rows-size.ensures) at c.put_block.ensures
