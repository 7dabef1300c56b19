-- The hash enciphered has sixteen bytes, of which the first twelve are the tag.
use native.Mathlib.Omega.{arith}
use mathlib.Core.Path.{◌≡◌, ap, ap₂, ◌∙◌}
use mathlib.Core.List.{List, [], ◌∷◌, ◌++◌}
use Prim.Native.Nat.{ℕ}
use lib.ListN.{replicate}
use Rattle.aes.specs.State.{State}
use Rattle.ghash.specs.Hash.{blocks, ghash, block_bytes}
use Rattle.gctr.specs.Gctr.{gctr}
use Rattle.wire.specs.Reading.{filled}
use Rattle.wire.proofs.ReadingLaws.{fill_here}
use Rattle.gcm.specs.Calls.{key_of}
use Rattle.gcm.specs.Gcm.{j0, authenticated, tag}
use Rattle.gcm.proofs.GcmLaws.{length_under}
use Rattle.gcm.proofs.ReadyKey.tag.Goals as goal

pub returns : goal.returns
unfolding tag authenticated
returns c =
    let s = c.args in
    let key = key_of s.self.now in
    let hash = authenticated key.subkey s.aad.now s.c.now in
    let made : c.hash_parts-hash.result ≡ hash =
    c.hash_parts-hash.ensures ∙ ap (λ (n : ℕ). ghash key.subkey (blocks s.aad.now ++ (blocks s.c.now ++ (n ∷ [])))) c.lengths.ensures in
    let x : c.encipher.new.s ≡ gctr key.schedule s.nonce j0 (block_bytes hash) =
    c.encipher.ensures
    ∙ ap₂ (λ (w : List State) (b : List ℕ). gctr w s.nonce j0 b) c.schedule.ensures (c.bytes_of-s.ensures ∙ ap block_bytes made) in
    c.array_at.ensures
    ∙ ap (λ (l : List ℕ). filled l 0 (replicate 12 0)) x
    ∙ fill_here _ 0 (replicate 12 0) (omega (arith, length_under key.schedule key.subkey s.nonce s.aad.now s.c.now))
