-- How long a reply is depends on how long the body's answer is, and on nothing else of it. How long an exception and the answer
-- to a right proof are.
use mathlib.Core.Path.{◌≡◌, refl, sym, ◌∙◌, ap}
use mathlib.Core.List.{List, [], ◌∷◌, ◌++◌}
use Prim.Native.Nat.{ℕ, ◌+◌}
use native.Mathlib.Omega.{arith}
use lib.ListN.{length, length-append}
use Rattle.model.specs.declared.Client.{Client}
use Rattle.model.specs.declared.Client.TheVariants.{Verification, Ciphering}
use Rattle.model.specs.State.{Line}
use Rattle.model.specs.Limits.{envelope_length}
use Rattle.model.specs.Calls.{Wrap, KeepsLengths}
use Rattle.hdlc.specs.Layout.{ui}
use Rattle.hdlc.specs.Tests.{reply_llc}
use Rattle.hdlc.proofs.LayoutLaws.{length_full}
use Rattle.cosem.specs.declared.Exception.{Exception}
use Rattle.cosem.specs.declared.Exception.TheVariants.{ServiceNotAllowed, ServiceUnknown}
use Rattle.cosem.specs.Tags.{exception_bytes, answer_tag}
use Rattle.material.specs.Material.{Keys}
use Rattle.envelope.specs.Challenge.{proof_value}
use Rattle.envelope.proofs.CloseLaws.{length_envelope}
use Rattle.envelope.proofs.ProofLaws.{length_proof}
use Rattle.protocol.specs.Clients.{counters, dedicated_keys}
use Rattle.protocol.specs.Rulings.{proved_text}
use Rattle.protocol.specs.Decide.{around_for, around, seal, p2}

-- the bytes around an answer of n bytes: none for V, an envelope for a client that ciphers
abbrev pub around_length : Client → ℕ → ℕ
around_length Verification n = n
around_length (Ciphering c) n = envelope_length n

pub length_around : (l : Line) (w : Wrap) (text : List ℕ) → length (around l w text) ≡ around_length w.client (length text)
unfolding around
length_around l w text = go w.client
  where
    go : (c : Client) → length (around_for l w c text) ≡ around_length c (length text)
    go Verification = refl
    go (Ciphering c) = length_envelope (dedicated_keys w.ak c l) l.title (answer_tag w.tag) (counters c l).sent text

pub length_seal : (l : Line) (w : Wrap) (text : List ℕ) → length (seal l w text) ≡ around_length w.client (length text) + 14
unfolding seal
length_seal l w text =
    let e : length (reply_llc ++ around l w text) ≡ 3 + length (around l w text) = length-append reply_llc (around l w text) in
    length_full w.destination w.source ui (reply_llc ++ around l w text) (omega arith) ∙ omega (arith, length_around l w text)

pub keeps_lengths : KeepsLengths p2
keeps_lengths l w xs ys e = length_seal l w xs ∙ ap (λ (n : ℕ). around_length w.client n + 14) e ∙ sym (length_seal l w ys)

-- What the line itself says.

pub length_exception : (e : Exception) → length (exception_bytes e) ≡ 3
length_exception ServiceNotAllowed = refl
length_exception ServiceUnknown = refl

-- C7 01, the invoke byte, 00 01 00, and the meter's own proof
pub length_proved : (k : Keys) (title challenge : List ℕ) (invoke number : ℕ) → length (proved_text k title challenge invoke number) ≡ 25
unfolding proved_text
length_proved k title challenge invoke number =
    omega (arith, length-append (0xC7 ∷ 0x01 ∷ invoke ∷ 0x00 ∷ 0x01 ∷ 0x00 ∷ []) (proof_value k title challenge number), length_proof k title challenge number)
