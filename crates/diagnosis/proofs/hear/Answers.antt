-- `diagnosis::hear` meets its contract.
use mathlib.Core.Path.{sym, ◌∙◌}
use native.Mathlib.Omega.{arith}
use Rattle.hdlc.proofs.ReadingLaws.{read_told}
use Rattle.diagnosis.proofs.hear.Goals as goal

pub slice_bounds-carry-count : goal.slice_bounds-carry-count
slice_bounds-carry-count c =
    let s = c.args in
    let k = rw (sym c.read_frame-read.ensures ∙ c.in-Apdu.is) at (read_told s.frame.now) in
    omega (arith, k.2.first, k.2.last, k.2.some)

pub slice_bounds-carry-start : goal.slice_bounds-carry-start
slice_bounds-carry-start c =
    let s = c.args in
    let k = rw (sym c.read_frame-read.ensures ∙ c.in-Apdu.is) at (read_told s.frame.now) in
    omega (arith, k.2.first, k.2.last, k.2.some)

pub slice_bounds-carry-end : goal.slice_bounds-carry-end
slice_bounds-carry-end c =
    let s = c.args in
    let k = rw (sym c.read_frame-read.ensures ∙ c.in-Apdu.is) at (read_told s.frame.now) in
    omega (arith, k.2.first, k.2.last, k.2.some)
