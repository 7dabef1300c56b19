-- After i turns the state has gone through i rounds.
use borrow.Author.Rules.{rules}
use native.Mathlib.Omega.{arith}
use native.Mathlib.Numerals.{add-one}
use mathlib.Core.Path.{◌≡◌, refl}
use lib.ListN.{length}
use Rattle.aes.specs.Cipher.{rounds, cipher}
use Rattle.aes.proofs.RoundLaws.{nine_keys, key_at}
use Rattle.aes.proofs.encrypt_block.Goals as goal

pub loop-k-init : goal.loop-k-init
unfolding rounds
loop-k-init c = refl

pub loop-k-preserved : goal.loop-k-preserved
unfolding rounds
loop-k-preserved c =
    let l = c.loop-k in
    let n : length c.args.w ≡ 11 = search rules in
    simp (add-one, c.round-n.ensures, l.invariant, key_at c.args.w l.k-index n c.loop-k-test.true)

pub returns : goal.returns
unfolding cipher
returns c =
    let l = c.loop-k in
    let n : length c.args.w ≡ 11 = search rules in
    let e : l.k-index ≡ 9 = omega (arith, nine_keys c.args.w n) in
    simp (c.final_round.ensures, l.invariant, e, c.add_round_key-s.ensures)
