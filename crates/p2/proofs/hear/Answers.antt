-- `p2::hear` meets its contract.
use mathlib.Core.Path.{sym, ◌∙◌}
use native.Mathlib.Omega.{arith}
use Rattle.hdlc.proofs.ReadingLaws.{read_told}
use Rattle.protocol.specs.Rulings.{frame, nothing}
use Rattle.ending.proofs.Endings.{nothing_sent, says_kept}
use Rattle.p2.proofs.hear.Goals as goal

pub slice_bounds-carry-count : goal.slice_bounds-carry-count
slice_bounds-carry-count c =
    let k = rw (sym c.read_frame.ensures ∙ c.in-Apdu.is) at (read_told c.args.frame.now) in
    omega (arith, k.2.first, k.2.last, k.2.some)

pub slice_bounds-carry-start : goal.slice_bounds-carry-start
slice_bounds-carry-start c =
    let k = rw (sym c.read_frame.ensures ∙ c.in-Apdu.is) at (read_told c.args.frame.now) in
    omega (arith, k.2.first, k.2.last, k.2.some)

pub slice_bounds-carry-end : goal.slice_bounds-carry-end
slice_bounds-carry-end c =
    let k = rw (sym c.read_frame.ensures ∙ c.in-Apdu.is) at (read_told c.args.frame.now) in
    omega (arith, k.2.first, k.2.last, k.2.some)

pub returns-in-Unanswered : goal.returns-in-Unanswered
returns-in-Unanswered c =
    rw (c.alone.ensures, c.kept.ensures, sym c.read_frame.ensures ∙ c.in-Unanswered.is)
    (says_kept (frame _) nothing c.args.meter c.number_of.ensures (nothing_sent _))

pub returns-in-Rejected : goal.returns-in-Rejected
returns-in-Rejected c =
    rw (c.alone-in-Rejected.ensures, sym c.read_frame.ensures ∙ c.in-Rejected.is) (c.reject.ensures c.args.meter.body)

pub returns-in-LinkUp : goal.returns-in-LinkUp
returns-in-LinkUp c =
    rw (c.alone-in-LinkUp.ensures, sym c.read_frame.ensures ∙ c.in-LinkUp.is) (c.link_up.ensures c.args.meter.body)

pub returns-in-LinkDown : goal.returns-in-LinkDown
returns-in-LinkDown c =
    rw (c.alone-in-LinkDown.ensures, sym c.read_frame.ensures ∙ c.in-LinkDown.is) (c.link_down.ensures c.args.meter.body)

pub returns-in-Apdu : goal.returns-in-Apdu
returns-in-Apdu c =
    rw (sym c.read_frame.ensures ∙ c.in-Apdu.is) c.carry.ensures
