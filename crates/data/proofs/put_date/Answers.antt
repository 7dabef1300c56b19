-- `data::put_date` meets its contract.
use native.Mathlib.Omega.{arith}
use lib.Seq.{length-take-le}
use Rattle.data.proofs.Lengths.{clock_bytes_long}
use Rattle.data.proofs.put_date.Goals as goal

pub slice_bounds-put_octets-end : goal.slice_bounds-put_octets-end
slice_bounds-put_octets-end c = omega (arith, clock_bytes_long c.args.clock _ c.well_formed.1.1.0)

pub put_octets-requires : goal.put_octets-requires
put_octets-requires c =
    let n = clock_bytes_long c.args.clock _ c.well_formed.1.1.0 in
    let part = (length-take-le 5 c.args.clock.bytes (omega (arith, n))) in
    (omega (arith, part), omega (arith, part, c.requires))

pub returns : goal.returns
returns c =
    let n = clock_bytes_long c.args.clock _ c.well_formed.1.1.0 in
    rw (length-take-le 5 c.args.clock.bytes (omega (arith, n))) at c.put_octets.ensures
