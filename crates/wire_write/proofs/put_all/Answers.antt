-- `wire_write::put_all` meets its contract. The invariant: the first i bytes of s are copied.
use mathlib.Core.Path.{refl}
use native.Mathlib.Numerals.{add-one}
use native.Mathlib.Omega.{arith}
use lib.ListN.{length-set}
use lib.Seq.{paste-zero, paste-suc}
use Rattle.std.proofs.Common.{rules, ◌≡◌, length}
use Rattle.wire_write.proofs.WroteLaws.{copied}
use Rattle.wire_write.proofs.put_all.Goals as goal

pub loop-i-init : goal.loop-i-init
loop-i-init c = (refl, paste-zero _ c.args.at c.args.s.now)

pub loop-i-preserved : goal.loop-i-preserved
loop-i-preserved c =
    let a = c.args in
    (simp length-set c.loop-i.invariant.0, rw (add-one, c.loop-i.invariant.1) (paste-suc a.out.now a.at a.s.now c.loop-i.i 0 (search rules) (search rules)))

pub returns : goal.returns
returns c =
    let a = c.args in
    let i : c.loop-i.i ≡ length a.s.now = omega (arith, c.loop-i.auto.i-end, c.loop-i-test.false) in
    rw i at (copied _ _ _ _ _ c.requires (search rules) (search rules) c.loop-i.invariant.1)
