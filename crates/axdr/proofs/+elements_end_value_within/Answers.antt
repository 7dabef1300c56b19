-- `axdr::value_within` and `axdr::elements_end`, which call each other, meet their contracts.
use Rattle.std.proofs.Common.{rules, refl, sym, ◌∙◌, ◌≡◌, ◌+◌, ◌-◌, arith}
use Rattle.axdr.specs.Values.{value_within}
use Rattle.axdr.proofs.ValueLaws.{elements_none, elements_stop, elements_turn, value_none, value_more}
use Rattle.axdr.proofs.+elements_end_value_within.Goals as goal

pub elements_end-returns-in_err-next : goal.elements_end-returns-in_err-next
elements_end-returns-in_err-next t c =
    let l = c.loop in
    rw c.from_residual.ensures (sym (elements_stop _ (c.args.count - l.counter) l.next (omega (arith, c.loop-test.true)) (sym c.value_within.ensures ∙ c.in_err-next.was)) ∙ l.invariant)

pub elements_end-loop-preserved : goal.elements_end-loop-preserved
elements_end-loop-preserved t c =
    let l = c.loop in
    let n : c.args.count - (l.counter + 1) ≡ c.args.count - l.counter - 1 = omega arith in
    rw n (elements_turn _ (c.args.count - l.counter) l.next (omega (arith, c.loop-test.true)) (sym c.value_within.ensures ∙ c.in_ok-next.was) ∙ l.invariant)

pub elements_end-returns : goal.elements_end-returns
elements_end-returns t c =
    let l = c.loop in
    sym (elements_none _ (c.args.count - l.counter) l.next (omega (arith, c.loop-test.false))) ∙ l.invariant

pub value_within-returns-then-depth-eq0 : goal.value_within-returns-then-depth-eq0
value_within-returns-then-depth-eq0 t c = let a = c.args in rw (value_none _ a.s.now a.at c.if-depth-eq0.true)

pub value_within-returns-in_err-tag : goal.value_within-returns-in_err-tag
value_within-returns-in_err-tag t c =
    let a = c.args in
    rw (c.from_residual.ensures, value_more _ a.s.now a.at c.if-depth-eq0.false, sym c.number_at.ensures, c.in_err-tag.was)

pub value_within-returns-in_err-n : goal.value_within-returns-in_err-n
value_within-returns-in_err-n t c =
    let a = c.args in
    rw (c.from_residual-in_err-n.ensures, value_more _ a.s.now a.at c.if-depth-eq0.false, sym c.number_at.ensures, c.in_ok-tag.was, sym c.layout_of.ensures, c.in_err-n.was)

pub value_within-returns-in_err-count-in-Elements : goal.value_within-returns-in_err-count-in-Elements
value_within-returns-in_err-count-in-Elements t c =
    let a = c.args in
    rw (c.from_residual-in_err-count-in-Elements.ensures, value_more _ a.s.now a.at c.if-depth-eq0.false, sym c.number_at.ensures, c.in_ok-tag.was, sym c.layout_of.ensures, c.in_ok-n.was, c.in-Elements.is, sym c.length_at.ensures, c.in_err-count-in-Elements.was)

pub value_within-returns-in-Fixed : goal.value_within-returns-in-Fixed
value_within-returns-in-Fixed t c =
    let a = c.args in
    rw (value_more _ a.s.now a.at c.if-depth-eq0.false, sym c.number_at.ensures, c.in_ok-tag.was, sym c.layout_of.ensures, c.in_ok-n.was, c.in-Fixed.is) c.skip_at.ensures

pub value_within-returns-in-Octets : goal.value_within-returns-in-Octets
value_within-returns-in-Octets t c =
    let a = c.args in
    rw (value_more _ a.s.now a.at c.if-depth-eq0.false, sym c.number_at.ensures, c.in_ok-tag.was, sym c.layout_of.ensures, c.in_ok-n.was, c.in-Octets.is) c.octets_end.ensures

pub value_within-returns-in_ok-count-in-Elements : goal.value_within-returns-in_ok-count-in-Elements
value_within-returns-in_ok-count-in-Elements t c =
    let a = c.args in
    rw (value_more _ a.s.now a.at c.if-depth-eq0.false, sym c.number_at.ensures, c.in_ok-tag.was, sym c.layout_of.ensures, c.in_ok-n.was, c.in-Elements.is, sym c.length_at.ensures, c.in_ok-count-in-Elements.was) c.elements_end.ensures
