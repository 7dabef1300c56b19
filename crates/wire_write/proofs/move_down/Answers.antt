-- `wire_write::move_down` meets its contract. At one place nothing is to be done. The invariant: the first i bytes are moved.
use mathlib.Core.Path.{◌≡◌, refl}
use native.Mathlib.Omega.{arith}
use lib.ListN.{take, drop, length-set}
use lib.Seq.{paste-zero}
use borrow.Author.Rules.{rules}
use Rattle.wire.proofs.PartLaws.{length_stretch}
use Rattle.wire_write.proofs.WroteLaws.{stands, copied, moved_on}
use Rattle.wire_write.proofs.move_down.Goals as goal

pub returns-then-to-from : goal.returns-then-to-from
returns-then-to-from c =
    let a = c.args in
    rw c.if-to-from.true (stands a.out.now a.from a.n (search rules))

pub loop-i-init : goal.loop-i-init
loop-i-init c = let a = c.args in (refl, paste-zero _ a.to (take a.n (drop a.from a.out.now)))

pub loop-i-preserved : goal.loop-i-preserved
loop-i-preserved c =
    let a = c.args in
    (simp length-set c.loop-i.invariant.0, rw c.loop-i.invariant.1 (moved_on a.out.now a.from a.to a.n c.loop-i.i (search rules) (search rules) (search rules)))

pub returns : goal.returns
returns c =
    let a = c.args in
    let i : c.loop-i.i ≡ a.n = omega (arith, c.loop-i.auto.i-end, c.loop-i-test.false) in
    let s = length_stretch a.out.now a.from a.n (search rules) in
    rw i at (copied a.out.now a.to (take a.n (drop a.from a.out.now)) _ _ (search rules) (search rules) (search rules) c.loop-i.invariant.1)
