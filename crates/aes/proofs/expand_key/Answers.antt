-- After i turns the first i + 1 round keys are made, k is the last of them, and rc the constant of the next.
use native.Mathlib.Omega.{arith}
use native.Mathlib.Numerals.{add-one}
use mathlib.Core.Path.{◌≡◌, refl, sym, ap, ◌∙◌}
use mathlib.Core.List.{List, [], ◌∷◌, ◌++◌, append-nil}
use Prim.Native.Nat.{◌+◌}
use lib.Seq.{take-suc-set, take_all}
use Rattle.aes.specs.State.{State}
use Rattle.aes.specs.KeyExpansion.{rcon, round_key, round_keys, key_expansion}
use Rattle.aes.proofs.expand_key.Goals as goal

pub loop-next-init : goal.loop-next-init
unfolding round_key rcon round_keys
loop-next-init c = (refl, refl, refl)

pub loop-next-preserved : goal.loop-next-preserved
unfolding round_key rcon round_keys
loop-next-preserved c =
    let l = c.loop-next in
    let i = l.next-index in
    let n = c.next_key-n.result in
    let k = c.state_of-k.result in
    let new : n ≡ round_key k (i + 1) = simp (add-one, c.next_key-n.ensures, l.invariant.0, l.invariant.1) in (
      new,
      simp (add-one, c.times_x-rc.ensures, l.invariant.1),
      simp (add-one, take-suc-set l.next-items i n (omega arith)) (ap (λ (t : List State). t ++ (n ∷ [])) l.invariant.2 ∙ simp (new, add-one)),
    )

pub returns : goal.returns
unfolding key_expansion
returns c =
    let l = c.loop-next in
    let e : l.next-index ≡ 10 = omega arith in
    let all = (rw e at l.invariant.2) in
    ap (λ (t : List State). c.state_of-k.result ∷ t) (append-nil l.next-items ∙ sym (take_all 10 l.next-items (omega arith))) ∙ all ∙ simp c.state_of-k.ensures
