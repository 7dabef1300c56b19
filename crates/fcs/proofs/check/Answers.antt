-- `fcs::check` meets its contract. The invariant: the rest of s, from c on, gives what all of s gives. The table's rule is
-- one test, computed over the whole table.
use mathlib.Core.Path.{refl, sym, ap, ◌∙◌}
use Prim.Native.Nat.{◌-◌}
use native.Mathlib.Omega.{arith}
use borrow.Author.Rules.{rules}
use Rattle.gf2.specs.Shift.{step, steps}
use Rattle.fcs.specs.Check.{polynomial, check_of}
use Rattle.fcs.proofs.CheckLaws.{turn, done}
use Rattle.fcs.proofs.check.Goals as goal

pub loop-b-preserved : goal.loop-b-preserved
loop-b-preserved c =
    let s = c.args.s.now in
    (search rules, rw c.update-c.ensures (turn s c.loop-b.b-index c.loop-b.c (omega arith) ∙ c.loop-b.invariant.1))

pub returns : goal.returns
unfolding check_of
returns c =
    let s = c.args.s.now in
    ap (λ x. 0xFFFF - x) (sym (done s c.loop-b.b-index c.loop-b.c (omega arith)) ∙ c.loop-b.invariant.1)
