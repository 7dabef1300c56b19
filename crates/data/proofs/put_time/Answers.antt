-- `data::put_time` meets its contract.
use native.Mathlib.Omega.{arith}
use Rattle.wire.proofs.PartLaws.{length_stretch}
use Rattle.data.proofs.Lengths.{clock_bytes_long}
use Rattle.data.proofs.put_time.Goals as goal

pub slice_bounds-put_octets-end : goal.slice_bounds-put_octets-end
slice_bounds-put_octets-end c = omega (arith, clock_bytes_long c.args.clock _ c.well_formed.1.1.0)

pub put_octets-requires : goal.put_octets-requires
put_octets-requires c =
    let n = clock_bytes_long c.args.clock _ c.well_formed.1.1.0 in
    let part = (length_stretch c.args.clock.bytes 5 4 (omega (arith, n))) in
    (omega (arith, part), omega (arith, part, c.requires))

pub returns : goal.returns
returns c =
    let n = clock_bytes_long c.args.clock _ c.well_formed.1.1.0 in
    rw (length_stretch c.args.clock.bytes 5 4 (omega (arith, n))) at c.put_octets.ensures
