-- Laws of the frames that go out: how the writers' pieces make a frame, and `framed`, by which a caller that wrote
-- information from byte 8 on learns what its buffer holds once the frame stands around it.
use mathlib.Core.Path.{◌≡◌, sym, ap, ◌∙◌}
use mathlib.Core.List.{List, [], ◌∷◌, ◌++◌}
use Prim.Native.Nat.{ℕ, ◌+◌, ◌-◌, ◌<◌, ◌≤◌}
use native.Mathlib.Omega.{arith}
use lib.ListN.{length, take, drop, length-drop}
use lib.Seq.{take_at, length-take-le}
use Rattle.fcs.specs.Check.{check_of}
use Rattle.wire.specs.Numbers.{low_first}
use Rattle.wire.specs.Reading.{part}
use Rattle.wire.specs.Wrote.{Wrote}
use Rattle.wire_write.proofs.WroteLaws.{then, stands, there, untouched, past, whole}
use Rattle.hdlc.specs.Layout.{flag, ui, head_bytes, checked, flagged, frame_of}
use Rattle.hdlc.specs.Tests.{reply_llc}
use Rattle.hdlc.specs.Replies.{apdu_frame, data_frame, Sent}
use Rattle.hdlc.specs.declared.Head.{Head}
use Rattle.hdlc.proofs.LayoutLaws.{length_head, length_checked, frame_full, length_full}

-- a frame that was written from the start on
pub sent : {l m bs : List ℕ} {r : ℕ} → Wrote l 0 m r bs → Sent bs l m r
sent {l} {m} {bs} {r} w =
    let n : r ≡ length bs = omega (arith, w.next) in
    record { holds = rw (sym n) (whole w); count = n }

-- the bytes after the flag
after_flag : {l m bs : List ℕ} {e x : ℕ} → Wrote l 0 m e (x ∷ bs) → part 1 e m ≡ bs
after_flag {l} {m} {bs} {e} {x} w = rw (whole w) (take_at bs (drop e l) (e - 1) (omega (arith, w.next)))

-- bytes after the flag, and their check after them
pub with_check : {l m n bs : List ℕ} {e k : ℕ} → Wrote l 0 m e (flag ∷ bs) → Wrote m e n k (low_first 2 (check_of (part 1 e m))) → Wrote l 0 n k (flag ∷ checked bs)
unfolding checked
with_check w u = then w (rw (after_flag w) at u)

-- and the last flag
pub with_flag : {l m n bs : List ℕ} {e k : ℕ} → Wrote l 0 m e (flag ∷ bs) → Wrote m e n k (flag ∷ []) → Sent (flagged bs) l n k
unfolding flagged
with_flag w v = sent (then w v)

length_part : (l : List ℕ) (e : ℕ) → e ≤ length l → length (part 8 e l) ≡ e - 8
length_part l e k = length-take-le (e - 8) (drop 8 l) (simp length-drop (omega arith))

module _ {l : List ℕ} (d s c e : ℕ) (h : 8 < e) (k : e ≤ length l) where
  -- a head with its HCS, and the information that stands after it already
  with_information : {m : List ℕ} {b : ℕ} → Wrote l 0 m b (flag ∷ checked (head_bytes (e + 1) d s c)) → Wrote l 0 m e (flag ∷ checked (head_bytes (9 + length (part 8 e l)) d s c) ++ part 8 e l)
  with_information {m} {b} w =
      let n = length_part l e k in
      let z : 9 + length (part 8 e l) ≡ e + 1 = omega arith in
      let b8 : b ≡ 8 = omega (arith, w.next, length_checked (head_bytes (e + 1) d s c), length_head (e + 1) d s c) in
      let i : part 8 e m ≡ part 8 e l = ap (take (e - 8)) (rw b8 at (untouched w)) in
      let j : 8 + (e - 8) ≡ e = omega arith in
      let t : Wrote m b m e (part 8 e l) = rw (b8, sym i) (rw j at (stands m 8 (e - 8) (omega (arith, w.kept)))) in
      rw z (then w t)

  -- head, HCS, FCS and flag around it
  pub around : {m n o p : List ℕ} {b j q r : ℕ} → Wrote l 0 m b (flag ∷ head_bytes (e + 1) d s c) → Wrote m b n j (low_first 2 (check_of (part 1 b m))) → Wrote n e o q (low_first 2 (check_of (part 1 e n))) → Wrote o q p r (flag ∷ []) → Sent (frame_of d s c (part 8 e l)) l p r
  around w u v x =
      let n = length_part l e k in
      rw (frame_full d s c (part 8 e l) (omega arith)) (with_flag (with_check (with_information (with_check w u)) v) x)

-- information that was written from byte 8 on, and a frame put around it
pub framed : {l m p info : List ℕ} {e r : ℕ} (d s c : ℕ) → 0 < length info → Wrote l 8 m e info → Sent (frame_of d s c (part 8 e m)) m p r → Sent (frame_of d s c info) l p r
framed {l} {m} {p} {info} {e} {r} d s c h w u =
    let n : e - 8 ≡ length info = omega (arith, w.next) in
    let t : part 8 e m ≡ info = rw n (there w) in
    let v : Sent (frame_of d s c info) m p r = rw t at u in
    let k : e ≤ length (frame_of d s c info) = omega (arith, w.next, length_full d s c info h) in
    record { holds = v.holds ∙ ap (λ (x : List ℕ). frame_of d s c info ++ x) (past w (length (frame_of d s c info)) k); count = v.count }

-- the same of an APDU that was written after its LLC
pub apdu_framed : {l m n p apdu : List ℕ} {b e r : ℕ} (h : Head) → Wrote l 8 m b reply_llc → Wrote m b n e apdu → Sent (data_frame h (part 8 e n)) n p r → Sent (apdu_frame h apdu) l p r
apdu_framed h w u v = framed h.source h.destination ui (omega arith) (then w u) v

-- the frame of an APDU is 14 bytes longer
pub length_apdu : (h : Head) (a : List ℕ) → length (apdu_frame h a) ≡ length a + 14
length_apdu h a = length_full h.source h.destination ui (reply_llc ++ a) (omega arith) ∙ omega arith
