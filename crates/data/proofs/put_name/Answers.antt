-- `data::put_name` meets its contract.
use native.Mathlib.Omega.{arith}
use Rattle.data.proofs.Lengths.{name_bytes_long}
use Rattle.data.proofs.put_name.Goals as goal

pub put_octets-requires : goal.put_octets-requires
put_octets-requires c =
    let n = name_bytes_long c.args.name _ c.well_formed.1.1.0 in
    (omega (arith, n), omega (arith, n, c.requires))

pub returns : goal.returns
returns c = rw (name_bytes_long c.args.name _ c.well_formed.1.1.0) at c.put_octets.ensures
