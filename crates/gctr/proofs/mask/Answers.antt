-- After i turns i bytes of the stream are used.
use Rattle.std.proofs.Common.{sym, ◌∙◌, add-one, arith}
use Rattle.gctr.proofs.XorLaws.{xor_none, xor_here, xor_store, xor_enough}
use Rattle.gctr.proofs.mask.Goals as goal

pub loop-i-init : goal.loop-i-init
loop-i-init c = sym (xor_none _)

pub loop-i-preserved : goal.loop-i-preserved
loop-i-preserved c =
    let l = c.loop-i in
    simp (add-one, l.invariant, xor_here) (xor_store c.args.s.now c.args.ks l.i (omega arith) (omega arith))

pub returns : goal.returns
returns c =
    let l = c.loop-i in
    l.invariant ∙ xor_enough c.args.s.now c.args.ks l.i (omega arith)
