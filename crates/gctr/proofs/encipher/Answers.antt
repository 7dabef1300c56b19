-- What stands before place at is done, and GCTR of the rest from the present counter on completes it.
use Rattle.std.proofs.Common.{refl, arith, min, ◌≡◌, ◌-◌, length}
use Rattle.gctr.specs.Gctr.{inc32}
use Rattle.gctr.proofs.GctrLaws.{turn, last_turn, done}
use Rattle.gctr.proofs.encipher.Goals as goal

pub loop-at-init : goal.loop-at-init
loop-at-init c = refl

pub loop-at-preserved : goal.loop-at-preserved
unfolding inc32
loop-at-preserved c =
    let l = c.loop-at in
    let a = c.args in
    let m : c.min-end.result - l.at ≡ min 16 (length l.s - l.at) = omega arith in
    turn a.w a.nonce l.k l.at _ l.s _ c.mask.new.s _ (omega arith) m l.invariant c.stream_block.ensures c.mask.ensures

pub returns : goal.returns
returns c =
    let l = c.loop-at in
    let a = c.args in done a.w a.nonce l.k l.at l.s _ (omega arith) l.invariant

pub returns-2 : goal.returns-2
unfolding inc32
returns-2 c =
    let l = c.loop-at in
    let a = c.args in
    let m : c.min-end.result - l.at ≡ min 16 (length l.s - l.at) = omega arith in
    last_turn a.w a.nonce l.k l.at _ l.s _ c.mask.new.s _ (omega arith) m (omega arith) l.invariant c.stream_block.ensures c.mask.ensures
