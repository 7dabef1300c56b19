-- `hdlc::read::Received::by_control` meets its contract: LLC stands at the front of the information.
use Rattle.std.proofs.Common.{arith, rules, sym}
use Rattle.hdlc.proofs.LayoutLaws.{information_front, information_length}
use Rattle.hdlc.specs.Reading.{accepted_frame}
use Rattle.hdlc.specs.Tests.{first_failing}
use Rattle.hdlc.proofs.read.Received.by_control.Goals as goal

pub slice_bounds-same-end : goal.slice_bounds-same-end
slice_bounds-same-end c = omega (arith, information_length c.args.self.now.bytes.now)

pub returns-in-19-2-clause-failed : goal.returns-in-19-2-clause-failed
unfolding first_failing
returns-in-19-2-clause-failed c =
    let f = c.args.self.now.bytes.now in
    rw (information_front f (omega (arith, information_length f)), sym c.same.ensures) (search rules)

pub returns-in-19-3-clause-passed : goal.returns-in-19-3-clause-passed
unfolding first_failing accepted_frame
returns-in-19-3-clause-passed c =
    let f = c.args.self.now.bytes.now in
    rw (information_front f (omega (arith, information_length f)), sym c.same.ensures) (search rules)
