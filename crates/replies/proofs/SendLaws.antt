-- Laws of whole replies: an APDU that stood in its place before LLC and frame were put around it, an envelope closed
-- around a text that stood in its place, and one that was written there first.
use mathlib.Core.Path.{◌≡◌, ap, ◌∙◌}
use mathlib.Core.List.{List, ◌++◌}
use Prim.Native.Nat.{ℕ, ◌+◌, ◌≤◌}
use native.Mathlib.Omega.{arith}
use lib.ListN.{length, take, drop}
use Rattle.wire.specs.Reading.{part}
use Rattle.wire.specs.Wrote.{Wrote}
use Rattle.wire.proofs.PartLaws.{length_stretch}
use Rattle.wire.proofs.LengthLaws.{field_size}
use Rattle.wire_write.proofs.WroteLaws.{stands, there, past}
use Rattle.model.specs.Limits.{envelope_length}
use Rattle.hdlc.specs.Tests.{reply_llc}
use Rattle.hdlc.specs.Replies.{apdu_frame, data_frame, Sent}
use Rattle.hdlc.specs.declared.Head.{Head}
use Rattle.hdlc_write.proofs.ReplyLaws.{apdu_framed, length_apdu}
use Rattle.material.specs.Material.{Keys}
use Rattle.envelope.specs.Layout.{counted_length, head_size, sealed_envelope}
use Rattle.envelope.proofs.CloseLaws.{encloses, envelope_size, length_envelope}

-- the head of an envelope takes seven to nine bytes
pub head_limits : (n : ℕ) → (7 ≤ head_size n) × (head_size n ≤ 9)
head_limits n = let f = field_size (counted_length n) in (omega arith, omega arith)

-- where an envelope ends that was closed around n bytes
pub closed_end : (k : Keys) (title : List ℕ) (tag counter n : ℕ) {m p : List ℕ} {b e : ℕ} → b + envelope_length n ≤ length m
    → Wrote m b p e (sealed_envelope k title tag counter (take n (drop (b + head_size n) m)))
    → e ≡ b + envelope_length n
closed_end k title tag counter n {m} {p} {b} {e} h w =
    let text = take n (drop (b + head_size n) m) in
    let size : length text ≡ n = length_stretch m (b + head_size n) n (omega (arith, envelope_size n)) in
    w.next ∙ ap (λ (j : ℕ). b + j) (length_envelope k title tag counter text ∙ ap envelope_length size)

-- a text that was written behind the room for its head, and the envelope closed around it
pub closed_around : (k : Keys) (title : List ℕ) (tag counter n : ℕ) {l m p : List ℕ} {at a b r : ℕ} (text : List ℕ) → length text ≡ n → a ≡ at + head_size n → Wrote l a m b text
    → Wrote m at p r (sealed_envelope k title tag counter (take n (drop (at + head_size n) m)))
    → Wrote l at p r (sealed_envelope k title tag counter text)
closed_around k title tag counter n {l} {m} {p} {at} {a} {b} {r} text size place w v =
    encloses k title tag counter {l = l} {m = m} {p = p} {at = at} {b = b} {r = r} text (rw (size, ← place) w) (rw size v)

-- an APDU that stood behind the room for LLC
pub stood : {l m p : List ℕ} {b e r : ℕ} (h : Head) (n : ℕ) → Wrote l 8 m b reply_llc → e ≡ 11 + n → e ≤ length l → Sent (data_frame h (part 8 e m)) m p r → Sent (apdu_frame h (take n (drop 11 l))) l p r
stood {l} {m} {p} {b} {e} {r} h n w q k v =
    let z : b ≡ 11 = omega (arith, w.next) in
    let u : Wrote m b m e (take n (drop 11 l)) = rw (z, q, ← past w 11 (omega arith)) (stands m 11 n (omega (arith, w.kept))) in
    apdu_framed h w u v

module _ (h : Head) (k : Keys) (title : List ℕ) (tag counter : ℕ) where
  -- an envelope closed around a text that stood behind the room for LLC and its head
  pub closed : {l m p q : List ℕ} {b e r : ℕ} (n : ℕ) → Wrote l 8 m b reply_llc
      → Wrote m b p e (sealed_envelope k title tag counter (take n (drop (b + head_size n) m)))
      → Sent (data_frame h (part 8 e p)) p q r
      → Sent (apdu_frame h (sealed_envelope k title tag counter (take n (drop (11 + head_size n) l)))) l q r
  closed {l} {m} {p} {q} {b} {e} {r} n w u v =
      let z : b ≡ 11 = omega (arith, w.next) in
      let t : drop (b + head_size n) m ≡ drop (11 + head_size n) l =
      past w (b + head_size n) (omega arith) ∙ ap (λ (j : ℕ). drop (j + head_size n) l) z in
      apdu_framed h w (rw t at u) v

  -- the same of a text that was written there first
  written : {l m p : List ℕ} {b r : ℕ} (text : List ℕ) → Wrote l (11 + head_size (length text)) m b text
      → Sent (apdu_frame h (sealed_envelope k title tag counter (take (length text) (drop (11 + head_size (length text)) m)))) m p r
      → Sent (apdu_frame h (sealed_envelope k title tag counter text)) l p r
  written {l} {m} {p} {b} {r} text w v =
      let f = apdu_frame h (sealed_envelope k title tag counter text) in
      let u : Sent f m p r = rw (there w) at v in
      let i : b ≤ length f =
      omega (arith, w.next, length_apdu h (sealed_envelope k title tag counter text), length_envelope k title tag counter text, envelope_size (length text)) in
      record { holds = u.holds ∙ ap (λ (x : List ℕ). f ++ x) (past w (length f) i); count = u.count }

  -- and that with its size and its place as the code has them
  pub enclosed : {l m p : List ℕ} {a b r : ℕ} (n : ℕ) (text : List ℕ) → length text ≡ n → a ≡ 11 + head_size n → Wrote l a m b text
      → Sent (apdu_frame h (sealed_envelope k title tag counter (take n (drop (11 + head_size n) m)))) m p r
      → Sent (apdu_frame h (sealed_envelope k title tag counter text)) l p r
  enclosed {l} {m} {p} {a} {b} {r} n text size place w v = written {l = l} {m = m} {p = p} {b = b} {r = r} text (rw (size, ← place) w) (rw size v)
