-- `results::plain_size` meets its contract.
use native.Mathlib.Omega.{arith}
use lib.Seq.{length-take-le}
use Rattle.wire.proofs.PartLaws.{length_stretch}
use Rattle.body.specs.View.{body_of}
use Rattle.results.proofs.Lengths.{device_long, clock_long}
use Rattle.results.proofs.plain_size.Goals as goal

pub returns-in-Clock : goal.returns-in-Clock
unfolding body_of
returns-in-Clock c =
    let b = c.args.body in
    rw c.in-Clock.is (omega (arith, clock_long b _ c.well_formed.0))

pub returns-in-Time : goal.returns-in-Time
unfolding body_of
returns-in-Time c =
    let b = c.args.body in
    let k = clock_long b _ c.well_formed.0 in
    rw c.in-Time.is (omega (arith, length_stretch b.clock.bytes 5 4 (omega (arith, k))))

pub returns-in-Date : goal.returns-in-Date
unfolding body_of
returns-in-Date c =
    let b = c.args.body in
    let k = clock_long b _ c.well_formed.0 in
    rw c.in-Date.is (omega (arith, length-take-le 5 b.clock.bytes (omega (arith, k))))

pub returns-in-Device : goal.returns-in-Device
unfolding body_of
returns-in-Device c =
    let b = c.args.body in
    rw c.in-Device.is (omega (arith, device_long b _ c.well_formed.0))
