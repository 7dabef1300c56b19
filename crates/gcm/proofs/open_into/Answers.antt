-- The room is tested, then the tag, and only then is anything written.
use mathlib.Core.Path.{sym, ap, ◌∙◌}
use mathlib.Core.List.{List, ◌++◌}
use Prim.Native.Nat.{ℕ}
use lib.ListN.{length, take, drop}
use lib.Seq.{take-length}
use Rattle.aes.specs.State.{State}
use Rattle.gctr.specs.Gctr.{inc32, gctr}
use Rattle.gcm.specs.Gcm.{ciphered}
use Rattle.gcm.specs.Calls.{key_of}
use Rattle.gcm.proofs.OpenLaws.{no_room, forged, unsealed_there}
use Rattle.gcm.proofs.open_into.Goals as goal
use Rattle.gcm.proofs.open_into.Goals.{then-out-c-via-then-out-c, then-out-c-via-else-out-c+then-not-matches}

pub returns-then-out-c : goal.returns-then-out-c
returns-then-out-c c =
    let s = c.args in
    elim c.then-out-c.branch [
      | then-out-c-via-then-out-c w ↦ no_room (key_of s.key) s.nonce s.aad.now s.c.now s.t.now s.out.now w.if-out-c.true
      | then-out-c-via-else-out-c+then-not-matches w ↦
          forged (key_of s.key) s.nonce s.aad.now s.c.now s.t.now s.out.now w.if-out-c.false (sym w.matches.ensures ∙ w.if-not-matches.true)
    ]

pub returns : goal.returns
unfolding ciphered inc32
returns c =
    let s = c.args in
    let rest = drop (length s.c.now) s.out.now in
    unsealed_there
    (key_of s.key)
    s.nonce
    s.aad.now
    s.c.now
    s.t.now
    s.out.now
    c.copy.new.out
    c.encipher.new.s
    c.if-out-c.false
    (sym c.matches.ensures ∙ c.if-not-matches.false)
    (c.copy.ensures ∙ ap (λ (x : List ℕ). x ++ rest) (sym (take-length s.c.now)))
    (c.encipher.ensures ∙ ap (λ (x : List State). gctr x s.nonce 2 (take (length s.c.now) c.copy.new.out)) c.schedule.ensures)
