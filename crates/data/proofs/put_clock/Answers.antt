-- `data::put_clock` meets its contract.
use mathlib.Core.Path.{ap}
use Prim.Native.Nat.{ℕ, suc}
use native.Mathlib.Omega.{arith}
use Rattle.data.proofs.Lengths.{clock_bytes_long}
use Rattle.data.proofs.put_clock.Goals as goal

pub put_octets-requires : goal.put_octets-requires
put_octets-requires c =
    let n = clock_bytes_long c.args.clock _ c.well_formed.1.1.0 in
    (omega (arith, n), omega (arith, n, c.requires))

pub returns : goal.returns
returns c =
    let n = clock_bytes_long c.args.clock _ c.well_formed.1.1.0 in
    record { wrote = rw n at c.put_octets.ensures; sized = ap (λ (j : ℕ). suc (suc j)) n }
