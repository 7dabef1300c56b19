-- The text is enciphered, and the tag made of what then stands in its place.
use mathlib.Core.Path.{◌≡◌, ap, ◌∙◌}
use mathlib.Core.List.{List}
use Rattle.aes.specs.State.{State}
use Rattle.gctr.specs.Gctr.{inc32, gctr}
use Rattle.gcm.specs.Gcm.{ciphered, tag}
use Rattle.gcm.specs.Calls.{key_of}
use Rattle.gcm.proofs.seal.Goals as goal

pub returns : goal.returns
unfolding ciphered inc32
returns c =
    let s = c.args in
    let sealed : c.encipher.new.s ≡ ciphered (key_of s.key) s.nonce s.text.now =
    c.encipher.ensures ∙ ap (λ (w : List State). gctr w s.nonce 2 s.text.now) c.schedule.ensures in record {
      cipher = sealed;
      tagged = c.tag.ensures ∙ ap (tag (key_of s.key) s.nonce s.aad.now) sealed;
    }
