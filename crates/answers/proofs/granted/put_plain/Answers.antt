-- `answers::granted::put_plain` meets its contract.
use native.Mathlib.Omega.{arith}
use lib.Seq.{length-take-le}
use Rattle.wire.proofs.PartLaws.{length_stretch}
use Rattle.wire_write.proofs.WroteLaws.{then}
use Rattle.body.specs.View.{body_of}
use Rattle.results.proofs.Lengths.{device_long, clock_long}
use Rattle.answers.proofs.granted.put_plain.Goals as goal

pub put_clock-requires : goal.put_clock-requires
unfolding body_of
put_clock-requires c =
    let b = c.args.body in
    let k = clock_long b _ c.well_formed.1.1.1.0 in
    omega (arith, rw c.in-Clock.is at c.requires)

pub put_time-requires : goal.put_time-requires
unfolding body_of
put_time-requires c =
    let b = c.args.body in
    let k = clock_long b _ c.well_formed.1.1.1.0 in
    omega (arith, rw c.in-Time.is at c.requires, length_stretch b.clock.bytes 5 4 (omega arith))

pub put_date-requires : goal.put_date-requires
unfolding body_of
put_date-requires c =
    let b = c.args.body in
    let k = clock_long b _ c.well_formed.1.1.1.0 in
    omega (arith, rw c.in-Date.is at c.requires, length-take-le 5 b.clock.bytes (omega arith))

pub put_all-a-requires : goal.put_all-a-requires
unfolding body_of
put_all-a-requires c =
    omega (arith, rw c.in-Device.is at c.requires, device_long c.args.body _ c.well_formed.1.1.1.0)

pub put_array-requires : goal.put_array-requires
unfolding body_of
put_array-requires c =
    (omega arith, omega (arith, rw c.in-Device.is at c.requires, device_long c.args.body _ c.well_formed.1.1.1.0))

pub returns-in-Clock : goal.returns-in-Clock
unfolding body_of
returns-in-Clock c = rw c.in-Clock.is c.put_clock.ensures.wrote

pub returns-in-Time : goal.returns-in-Time
unfolding body_of
returns-in-Time c = rw c.in-Time.is c.put_time.ensures

pub returns-in-Date : goal.returns-in-Date
unfolding body_of
returns-in-Date c = rw c.in-Date.is c.put_date.ensures

pub returns-in-Device : goal.returns-in-Device
unfolding body_of
returns-in-Device c =
    rw c.in-Device.is (then c.put_all-a.ensures c.put_array.ensures.wrote)
