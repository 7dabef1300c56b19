-- A frame that was written is read back: the tests of refusal 4 pass, and the fields are those that it was written from. A
-- data frame passes every test of the side that it is for, the meter's reply at a client and a client's request at the meter.
use mathlib.Core.Path.{◌≡◌, refl, sym, ap, ap₂, ◌∙◌}
use mathlib.Core.Bool.{true, false, not}
use mathlib.Core.List.{List, [], ◌∷◌, ◌++◌, append_assoc}
use Prim.Native.Nat.{ℕ, ◌+◌, ◌-◌, ◌/◌, ◌%◌, ◌^◌, ◌<◌, ◌≤◌}
use native.Mathlib.Nat.{mod-eq_of_lt}
use native.Mathlib.Omega.{arith}
use lib.Dec.{eqb, ltb}
use lib.ListN.{length, take, drop, length-append}
use lib.Seq.{take_at, drop_at, get_or_at}
use borrow.Author.Tests.{lt-ltb, le-ltb, eq-eqb, ne_eqb}
use Rattle.std.specs.Prelude.{Some, is_some, Ok}
use Rattle.model.specs.Limits.{greatest_length, longest_received, longest_sent}
use Rattle.model.specs.declared.Client.{Client}
use Rattle.model.specs.declared.Client.TheVariants.{Verification, Ciphering}
use Rattle.model.specs.declared.CipherClient.TheVariants.{Han}
use Rattle.fcs.specs.Check.{check_of}
use Rattle.fcs.proofs.CheckLaws.{check_fits}
use Rattle.wire.specs.Numbers.{low_first, high_first, number_low, number_high}
use Rattle.wire.specs.Reading.{part}
use Rattle.wire.proofs.NumberLaws.{low_number, high_number}
use Rattle.wire.proofs.SameLaws.{same_self}
use Rattle.hdlc.specs.Layout.{flag, ui, byte, format_of, length_of, head_of, hcs_of, hcs_covers, information_of, fcs_of, fcs_covers, head_bytes, checked, flagged, frame_of}
use Rattle.hdlc.specs.Addresses.{meter_address, address_of, sender_of}
use Rattle.hdlc.specs.Tests.{Side, fails, frame_tests, first_failing, AllPass, none, more, meter_side, client_side, request_llc}
use Rattle.hdlc.specs.declared.FrameTest.TheVariants.{ShortFrame, FlagMissing, FrameType, LengthMismatch, LengthEightOrNine, WrongFcs, WrongHcs, EvenAddress, FrmrReceived, OverLength, SegmentBit, PfClear, WrongDestination, WrongSource, UnknownControl, LinkDownWithInformation, ShortInformation, WrongLlc}
use Rattle.hdlc.specs.Reading.{judged_frame, read_frame}
use Rattle.hdlc.specs.Replies.{data_frame, apdu_frame}
use Rattle.hdlc.specs.declared.Frame.TheVariants.{Apdu}
use Rattle.hdlc.specs.declared.Head.{Head}
use Rattle.hdlc.proofs.LayoutLaws.{information_rest, length_head, length_checked, length_flagged, frame_full, length_full}
use Rattle.hdlc.proofs.TestLaws.{passes_both, none_fails}
use Rattle.hdlc.proofs.ReadingLaws.{accepted_apdu}

-- a check that was written, low byte first, is read back
check_back : (bs : List ℕ) → number_low (low_first 2 (check_of bs)) ≡ check_of bs
check_back bs =
    let h : check_of bs < 256 ^ 2 = omega (arith, check_fits bs) in
    low_number 2 (check_of bs) ∙ mod-eq_of_lt h

-- a format that was written is read back
format_back : (l : ℕ) → l < 0x800 → number_high (high_first 2 (0xA000 + l)) ≡ 0xA000 + l
format_back l k =
    let h : 0xA000 + l < 256 ^ 2 = omega arith in
    high_number 2 (0xA000 + l) ∙ mod-eq_of_lt h

-- bytes with their check, between two flags
abbrev closed : List ℕ → List ℕ
closed bs = flagged (checked bs)

-- what is read at the end of them
module _ (bs : List ℕ) where
  length_closed : length (closed bs) ≡ length bs + 4
  length_closed = omega (arith, length_flagged (checked bs), length_checked bs)

  first_flag : byte (closed bs) 0 ≡ flag
  unfolding flagged
  first_flag = refl

  last_flag : byte (closed bs) (length (closed bs) - 1) ≡ flag
  unfolding flagged
  last_flag = get_or_at (flag ∷ checked bs) flag [] 0 (length (closed bs) - 1) (omega (arith, length_flagged (checked bs)))

  fcs_covers_lem : fcs_covers (closed bs) ≡ bs
  unfolding flagged checked
  fcs_covers_lem =
      let n : length (closed bs) - 3 - 1 ≡ length bs = omega (arith, length_closed) in
      ap₂ take n (append_assoc bs (low_first 2 (check_of bs)) (flag ∷ [])) ∙ take_at bs (low_first 2 (check_of bs) ++ flag ∷ []) (length bs) refl

  fcs_back : fcs_of (closed bs) ≡ check_of bs
  unfolding fcs_of flagged checked
  fcs_back =
      let n : length (flag ∷ bs) ≡ length (closed bs) - 3 = omega (arith, length_closed) in
      ap (λ (t : List ℕ). number_low (take 2 t))
      (ap (drop (length (closed bs) - 3)) (append_assoc (flag ∷ bs) (low_first 2 (check_of bs)) (flag ∷ []))
      ∙ drop_at (flag ∷ bs) (low_first 2 (check_of bs) ++ flag ∷ []) (length (closed bs) - 3) n)
      ∙ check_back bs

-- a head with L, and what stands after it: what is read at the start
module _ (l d s c : ℕ) (rest : List ℕ) where
  head_back : head_of (closed (head_bytes l d s c ++ rest)) ≡ record { destination = d; source = s; control = c }
  unfolding flagged checked head_bytes
  head_back = refl

  format_read : l < 0x800 → format_of (closed (head_bytes l d s c ++ rest)) ≡ 0xA000 + l
  unfolding format_of flagged checked head_bytes
  format_read k = format_back l k

  hcs_covers_lem : hcs_covers (closed (head_bytes l d s c ++ rest)) ≡ head_bytes l d s c
  unfolding flagged checked head_bytes
  hcs_covers_lem = refl

  -- the tests of refusal 4, but for the one on the HCS
  intact : (r : Side) → l ≡ length rest + 7 → l < 0x800 → (l ≡ 8 → ⊥) → (l ≡ 9 → ⊥) → d % 2 ≡ 1 → s % 2 ≡ 1 → fails r WrongHcs (closed (head_bytes l d s c ++ rest)) ≡ false → AllPass r (closed (head_bytes l d s c ++ rest)) (take 8 frame_tests)
  intact r n k not8 not9 od os hcs =
      let bs = head_bytes l d s c ++ rest in
      let f = closed bs in
      let m : length f ≡ l + 2 = omega (arith, length_closed bs, length-append (head_bytes l d s c) rest, length_head l d s c) in
      let g = format_read k in
      let len : length_of f ≡ l = rw g (omega arith) in
      let dest : byte f 3 ≡ d = ap (λ (h : Head). h.destination) head_back in
      let source : byte f 4 ≡ s = ap (λ (h : Head). h.source) head_back in
      more ShortFrame (le-ltb (length f) 9 (omega arith))
      (more FlagMissing (rw (eq-eqb (byte f 0) flag (first_flag bs), eq-eqb (byte f (length f - 1)) flag (last_flag bs)))
      (more FrameType (ap not (eq-eqb (format_of f / 0x1000) 0xA (rw g (omega arith))))
      (more LengthMismatch (ap not (eq-eqb (length_of f) (length f - 2) (len ∙ omega arith)))
      (more LengthEightOrNine (rw (ne_eqb (length_of f) 8 (λ q. not8 (sym len ∙ q)), ne_eqb (length_of f) 9 (λ q. not9 (sym len ∙ q))))
      (more WrongFcs (ap not (eq-eqb (check_of (fcs_covers f)) (fcs_of f) (ap check_of (fcs_covers_lem bs) ∙ sym (fcs_back bs))))
      (more WrongHcs hcs
      (more EvenAddress (rw (dest, source, ne_eqb (d % 2) 0 (λ q. omega arith), ne_eqb (s % 2) 0 (λ q. omega arith))) none)))))))

-- A frame that was written is read back.
pub record ReadBack (r : Side) (f : List ℕ) (d s c : ℕ) (i : List ℕ) : Type 0 where
  pub head : head_of f ≡ record { destination = d; source = s; control = c }
  pub information : information_of f ≡ i
  pub format : format_of f ≡ 0xA000 + (length f - 2)
  pub passes : AllPass r f (take 8 frame_tests)

-- with information
module _ (d s c : ℕ) (i : List ℕ) where
  abbrev hd : List ℕ
  hd = head_bytes (9 + length i) d s c

  abbrev rest : List ℕ
  rest = low_first 2 (check_of hd) ++ i

  full_form : 0 < length i → frame_of d s c i ≡ closed (hd ++ rest)
  unfolding checked
  full_form h = frame_full d s c i h ∙ ap closed (append_assoc hd (low_first 2 (check_of hd)) i)

  full_length : length (closed (hd ++ rest)) ≡ length i + 11
  full_length =
      omega (arith, length_closed (hd ++ rest), length-append hd rest, length_head (9 + length i) d s c)

  hcs_back : hcs_of (closed (hd ++ rest)) ≡ check_of hd
  unfolding hcs_of flagged checked head_bytes
  hcs_back = check_back hd

  information_back : information_of (closed (hd ++ rest)) ≡ i
  unfolding information_of flagged checked head_bytes
  information_back =
      let n : length (closed (hd ++ rest)) - 3 - 8 ≡ length i = omega (arith, full_length) in
      ap₂ take n (append_assoc i (low_first 2 (check_of (hd ++ rest))) (flag ∷ [])) ∙ take_at i (low_first 2 (check_of (hd ++ rest)) ++ flag ∷ []) (length i) refl

  full_back : (r : Side) → d % 2 ≡ 1 → s % 2 ≡ 1 → 0 < length i → 9 + length i < 0x800 → ReadBack r (closed (hd ++ rest)) d s c i
  full_back r od os h k =
      let f = closed (hd ++ rest) in
      let n = full_length in
      let g = format_read (9 + length i) d s c rest k in
      let long : ltb 8 (length_of f) ≡ true = lt-ltb 8 (length_of f) (rw g (omega arith)) in
      let hcs : eqb (check_of (hcs_covers f)) (hcs_of f) ≡ true = eq-eqb (check_of (hcs_covers f)) (hcs_of f) (ap check_of (hcs_covers_lem (9 + length i) d s c rest) ∙ sym hcs_back) in
      record {
        head = head_back (9 + length i) d s c rest;
        information = information_back;
        format = g ∙ omega arith;
        passes = intact (9 + length i) d s c rest r (omega arith) k (λ q. omega arith) (λ q. omega arith) od os (rw (long, hcs));
      }

-- without information
plain_back : (r : Side) (d s c : ℕ) → d % 2 ≡ 1 → s % 2 ≡ 1 → ReadBack r (closed (head_bytes 7 d s c ++ [])) d s c []
unfolding information_of
plain_back r d s c od os =
    let f = closed (head_bytes 7 d s c ++ []) in
    let n : length f ≡ 9 = omega (arith, length_closed (head_bytes 7 d s c ++ []), length-append (head_bytes 7 d s c) [], length_head 7 d s c) in
    let k : 7 < 0x800 = omega arith in
    let g = format_read 7 d s c [] k in
    let short : ltb 8 (length_of f) ≡ false = le-ltb 8 (length_of f) (rw g (omega arith)) in
    record {
      head = head_back 7 d s c [];
      information = rw n;
      format = g ∙ omega arith;
      passes = intact 7 d s c [] r (omega arith) k (λ q. omega arith) (λ q. omega arith) od os (rw short);
    }

plain_form : (d s c : ℕ) → frame_of d s c [] ≡ closed (head_bytes 7 d s c ++ [])
unfolding frame_of head_bytes
plain_form d s c = refl

-- the round trip over the layout, from any odd addresses, any control and any information that L can count
pub read_back : (r : Side) (d s c : ℕ) (i : List ℕ) → d % 2 ≡ 1 → s % 2 ≡ 1 → 9 + length i < 0x800 → ReadBack r (frame_of d s c i) d s c i
read_back r d s c [] od os k = rw (plain_form d s c) (plain_back r d s c od os)
read_back r d s c (x ∷ xs) od os k = rw (full_form d s c (x ∷ xs) (omega arith)) (full_back d s c (x ∷ xs) r od os (omega arith) k)

-- A data frame with the APDU a, from s, at the side that it is for.
abbrev data_to : Side → ℕ → List ℕ → List ℕ
data_to r s a = frame_of r.own s ui (r.llc ++ a)

module _ (r : Side) (s : ℕ) (a : List ℕ) (od : r.own % 2 ≡ 1) (os : s % 2 ≡ 1) (taken : r.takes s ≡ true) (three : length r.llc ≡ 3) (some : 0 < length a) (fits : 3 + length a ≤ r.longest) (counts : r.longest + 9 < 0x800) where
  length_information : length (r.llc ++ a) ≡ 3 + length a
  length_information = length-append r.llc a ∙ omega arith

  back : ReadBack r (data_to r s a) r.own s ui (r.llc ++ a)
  back = let n = length_information in read_back r r.own s ui (r.llc ++ a) od os (omega arith)

  -- it passes every test
  pub data_passes : AllPass r (data_to r s a) frame_tests
  unfolding greatest_length
  data_passes =
      let f = data_to r s a in
      let b = back in
      let n = length_information in
      let len : length f ≡ length a + 14 = length_full r.own s ui (r.llc ++ a) (omega arith) ∙ omega arith in
      let i : length (information_of f) ≡ 3 + length a = ap length b.information ∙ n in
      let control : byte f 5 ≡ ui = ap (λ (h : Head). h.control) b.head in
      let dest : byte f 3 ≡ r.own = ap (λ (h : Head). h.destination) b.head in
      let source : byte f 4 ≡ s = ap (λ (h : Head). h.source) b.head in
      let g : format_of f ≡ 0xA000 + (length f - 2) = b.format in
      let llc : take 3 (information_of f) ≡ r.llc = ap (take 3) b.information ∙ take_at r.llc a 3 three in
      passes_both r f b.passes
      (more FrmrReceived (rw control)
      (more OverLength (le-ltb (r.longest + 9) (length_of f) (rw g (omega arith)))
      (more SegmentBit (ne_eqb (format_of f / 0x800 % 2) 1 (rw g (omega arith)))
      (more PfClear (rw control)
      (more WrongDestination (ap not (eq-eqb (byte f 3) r.own dest))
      (more WrongSource (rw (source, taken))
      (more UnknownControl (rw control)
      (more LinkDownWithInformation (rw control)
      (more ShortInformation (rw (control, le-ltb (length (information_of f)) 4 (omega arith)))
      (more WrongLlc (rw (control, llc, same_self)) none))))))))))

odd_address : (c : Client) → address_of c % 2 ≡ 1
odd_address c = omega arith

known_address : (c : Client) → sender_of (address_of c) ≡ Some c
unfolding sender_of
known_address Verification = refl
known_address (Ciphering Han) = refl

-- The meter's replies at a client: a data frame of 1 to the longest information sent is read back, and one with LLC and an
-- APDU passes every test.
module _ (c : Client) (h : Head) (to : h.source ≡ address_of c) (from : h.destination ≡ meter_address) where
  pub reply_back : (i : List ℕ) → 0 < length i → length i ≤ longest_sent → ReadBack (client_side c) (data_frame h i) (address_of c) meter_address ui i
  unfolding longest_sent
  reply_back i some fits =
      rw (to, from) (read_back (client_side c) (address_of c) meter_address ui i (odd_address c) refl (omega arith))

  pub reply_passes : (a : List ℕ) → 0 < length a → 3 + length a ≤ longest_sent → first_failing (client_side c) frame_tests (apdu_frame h a) ≡ Ok tt
  unfolding longest_sent
  reply_passes a some fits =
      rw (to, from) (none_fails (client_side c) (data_to (client_side c) meter_address a) (data_passes (client_side c) meter_address a (odd_address c) refl refl refl some fits (omega arith)))

-- A client's request at the meter: it is read as its APDU, and that APDU stands between the places that are told.
module _ (c : Client) (a : List ℕ) (some : 0 < length a) (fits : 3 + length a ≤ longest_received) where
  request_back : ReadBack meter_side (data_to meter_side (address_of c) a) meter_address (address_of c) ui (request_llc ++ a)
  unfolding longest_received
  request_back = read_back meter_side meter_address (address_of c) ui (request_llc ++ a) refl (odd_address c) (omega arith)

  request_length : length (data_to meter_side (address_of c) a) ≡ 11 + length a + 3
  request_length = length_full meter_address (address_of c) ui (request_llc ++ a) (omega arith) ∙ omega arith

  pub request_read : read_frame (data_to meter_side (address_of c) a) ≡ Apdu c (record { destination = meter_address; source = address_of c; control = ui }) 11 (11 + length a)
  unfolding read_frame longest_received
  request_read =
      let f = data_to meter_side (address_of c) a in
      let b = request_back in
      let source : sender_of (byte f 4) ≡ Some c = ap (λ (h : Head). sender_of h.source) b.head ∙ known_address c in
      let passed = none_fails meter_side f (data_passes meter_side (address_of c) a refl (odd_address c) (ap is_some (known_address c)) refl some fits (omega arith)) in
      let n : length f - 3 ≡ 11 + length a = omega (arith, request_length) in
      ap₂ (judged_frame f) source passed
      ∙ accepted_apdu f c (ap (λ (h : Head). h.control) b.head)
      ∙ ap₂ (λ (h : Head) (e : ℕ). Apdu c h 11 e) b.head n

  pub request_apdu : part 11 (11 + length a) (data_to meter_side (address_of c) a) ≡ a
  request_apdu =
      let f = data_to meter_side (address_of c) a in
      let n : 11 + length a ≡ length f - 3 = omega (arith, request_length) in
      rw n (information_rest f (omega (arith, request_length)) ∙ ap (drop 3) request_back.information)
