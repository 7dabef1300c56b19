-- What goes out is a frame: its layout passes at either client, its addresses are exchanged, it is no longer than the least reply
-- room, and with an APDU it passes every test of the client that it answers. `Answers` of specs/Outcomes, proved.
use mathlib.Core.Path.{◌≡◌, refl, sym, ap, ◌∙◌}
use mathlib.Core.Bool.{Bool, true, false, cond, not, ◌&&◌, false≢true}
use mathlib.Core.List.{List, [], ◌∷◌, ◌++◌}
use Prim.Native.Nat.{ℕ, ◌%◌, ◌≤◌, ◌<◌}
use native.Mathlib.Omega.{arith}
use lib.Dec.{eqb, ltb}
use lib.ListN.{length, take, drop, length-append}
use borrow.Author.Tests.{eqb-true, eqb-false, ltb-true, not-false}
use Rattle.model.specs.declared.Client.{Client}
use Rattle.model.specs.declared.Client.TheVariants.{Verification, Ciphering}
use Rattle.model.specs.declared.CipherClient.{CipherClient}
use Rattle.model.specs.Limits.{longest_sent, reply_room, apdu_room, text_room}
use Rattle.model.specs.Periods.{listed}
use Rattle.model.specs.Services.{offered, common}
use Rattle.model.specs.State.{Line, Model}
use Rattle.model.specs.Objects.{go_on}
use Rattle.model.specs.Calls.{Lent, lent_refusal, Outcome, decided, settles}
use Rattle.model.proofs.LimitFacts.{apdu_room_lem, text_room_lem}
use Rattle.model.proofs.ListLaws.{both, neither}
use Rattle.hdlc.specs.declared.Head.{Head}
use Rattle.hdlc.specs.declared.FrameTest.{FrameTest}
use Rattle.hdlc.specs.declared.FrameTest.TheVariants.{EvenAddress, WrongDestination}
use Rattle.hdlc.specs.Layout.{ui, ua, dm, frmr, byte, head_of, frame_of}
use Rattle.hdlc.specs.Addresses.{meter_address, address_of}
use Rattle.hdlc.specs.Tests.{Side, AllPass, FirstOf, none, more, fails, meter_side, client_side, frame_tests, number_of, reply_llc}
use Rattle.hdlc.specs.Replies.{reply_frame, apdu_frame, frmr_frame, reject_code}
use Rattle.hdlc.proofs.LayoutLaws.{length_plain, length_full}
use Rattle.hdlc.proofs.TestLaws.{all_pass, passes_in}
use Rattle.hdlc.proofs.RoundTrip.{ReadBack, read_back, reply_passes}
use Rattle.cosem.specs.declared.Exception.{Exception}
use Rattle.cosem.specs.Tags.{exception_bytes, release_response, dedicated_tag, answer_tag}
use Rattle.acse.specs.Initiate.{initiate_response}
use Rattle.acse.specs.Aare.{plain_aare, ciphered_aare_head, rejected_aare}
use Rattle.acse.proofs.Layouts.{length_plain as length-aare, length_head, length_rejected}
use Rattle.acse.proofs.ServiceLaws.{length_common, length_offered}
use Rattle.material.specs.Material.{Keys}
use Rattle.envelope.specs.Layout.{sealed_envelope}
use Rattle.envelope.proofs.CloseLaws.{length_envelope, envelope_size, envelope_fits}
use Rattle.protocol.specs.Clients.{counters, lent_keys, dedicated_keys}
use Rattle.protocol.specs.Rulings.{Ruling, decision}
use Rattle.protocol.specs.Decide.{accepted_plain, accepted_ciphered, wrap, request_of, accepted, advanced, proved, disproved, around, seal, secrets_of, p2}
use Rattle.protocol.specs.Outcomes.{apdu_in, Framed, Answers}
use Rattle.protocol.proofs.Lengths.{length_exception, length_proved}
use Rattle.protocol.proofs.Numbers.{FrameNumber, four, five, eight, nine, frame_number}
use Rattle.protocol.proofs.Outcomes.{row_lent}
use Rattle.protocol.proofs.Leaves as by
use Rattle.protocol.proofs.Turns.{turned_some, turned_fits}

-- Addresses: a frame that is answered has passed the tests of refusal 4, and so its addresses are odd.

pub record Odd (f : List ℕ) : Type 0 where
  pub destination : byte f 3 % 2 ≡ 1
  pub source : byte f 4 % 2 ≡ 1

odd_passed : (f : List ℕ) → fails meter_side EvenAddress f ≡ false → Odd f
odd_passed f e =
    let n = neither (eqb (byte f 3 % 2) 0) (eqb (byte f 4 % 2) 0) e in
    let d = eqb-false (byte f 3 % 2) 0 n.0 in
    let s = eqb-false (byte f 4 % 2) 0 n.1 in
    record { destination = odd (byte f 3) d; source = odd (byte f 4) s }
  where
    odd : (n : ℕ) → (n % 2 ≡ 0 → ⊥) → n % 2 ≡ 1
    odd n h = go (eqb (n % 2) 0) refl
      where
        go : (b : Bool) → eqb (n % 2) 0 ≡ b → n % 2 ≡ 1
        go true q = absurd (h (eqb-true (n % 2) 0 q))
        go false q = omega (arith, eqb-false (n % 2) 0 q)

-- the tests of a stretch all belong to refusals below 8
abbrev all_low : List FrameTest → Bool
all_low [] = true
all_low (t ∷ ts) = ltb (number_of t) 8 && all_low ts

-- a frame whose first failing test belongs to refusal 8 or 9 passes such a stretch
stretch_passes : (r : Side) (f : List ℕ) (xs ys before after : List FrameTest) (t : FrameTest) → xs ++ ys ≡ before ++ t ∷ after → all_low xs ≡ true → 8 ≤ number_of t → AllPass r f before → AllPass r f xs
stretch_passes r f [] ys before after t e k h p = none
stretch_passes r f (x ∷ xs) ys [] after t e k h p =
    let z : x ≡ t = cc in
    absurd (omega (arith, ltb-true (number_of x) 8 (both (ltb (number_of x) 8) (all_low xs) k).0, ap number_of z))
stretch_passes r f (x ∷ xs) ys (b ∷ before) after t e k h (more _ q p) =
    let z : b ≡ x = cc in
    let rest : xs ++ ys ≡ before ++ t ∷ after = cc in
    more x (rw z at q) (stretch_passes r f xs ys before after t rest (both (ltb (number_of x) 8) (all_low xs) k).1 h p)

abbrev first_eight : List FrameTest
first_eight = take 8 frame_tests

module _ (f : List ℕ) where
  odd_all : AllPass meter_side f frame_tests → Odd f
  odd_all p = odd_passed f (passes_in meter_side f (take 7 frame_tests) (drop 8 frame_tests) EvenAddress p)

  odd_rejected : (t : FrameTest) → 8 ≤ number_of t → FirstOf meter_side frame_tests f t → Odd f
  odd_rejected t h first =
      odd_passed f
      (passes_in meter_side f (take 7 frame_tests) [] EvenAddress
      (stretch_passes meter_side f first_eight (drop 8 frame_tests) first.before first.after t first.order refl h first.passed))

  -- one that passes every test is for the meter
  meter_all : AllPass meter_side f frame_tests → byte f 3 ≡ meter_address
  meter_all p = eqb-true (byte f 3) meter_address (not-false _ (passes_in meter_side f (take 12 frame_tests) (drop 13 frame_tests) WrongDestination p))

-- Replies.

framed_length : (d s c : ℕ) (i : List ℕ) → length i ≤ longest_sent → length (frame_of d s c i) ≤ reply_room longest_sent
unfolding longest_sent reply_room
framed_length d s c [] h = omega (arith, length_plain d s c)
framed_length d s c (x ∷ xs) h = omega (arith, length_full d s c (x ∷ xs) (omega arith))

three_fit : 3 ≤ longest_sent
unfolding longest_sent
three_fit = omega arith

module _ (f : List ℕ) (odd : Odd f) where
  framed_reply : (k : ℕ) (i : List ℕ) → length i ≤ longest_sent
      → ((c : Client) → byte f 4 ≡ address_of c → k ≡ ui → AllPass (client_side c) (reply_frame (head_of f) k i) frame_tests)
      → Framed f (reply_frame (head_of f) k i)
  unfolding longest_sent
  framed_reply k i h whole =
      let back : (r : Side) → ReadBack r (reply_frame (head_of f) k i) (byte f 4) (byte f 3) k i = λ r. read_back r (byte f 4) (byte f 3) k i odd.source odd.destination (omega arith) in
      let control : byte (reply_frame (head_of f) k i) 5 ≡ k = ap (λ (h : Head). h.control) (back meter_side).head in
      record {
        layout = λ c. (back (client_side c)).passes;
        carries = λ c to e. whole c to (sym control ∙ e);
        destination = ap (λ (h : Head). h.destination) (back meter_side).head;
        source = ap (λ (h : Head). h.source) (back meter_side).head;
        fits = framed_length (byte f 4) (byte f 3) k i h;
      }

  framed_bare : (k : ℕ) (i : List ℕ) → length i ≤ longest_sent → (k ≡ ui → ⊥) → Framed f (reply_frame (head_of f) k i)
  framed_bare k i h other = framed_reply k i h (λ c to e. absurd (other e))

  framed_reject : (t : FrameTest) → Framed f (frmr_frame (head_of f) t)
  framed_reject t = framed_bare frmr ((head_of f).control ∷ 0x00 ∷ reject_code t ∷ []) three_fit (λ e. omega arith)

-- to a frame that passes every test
module _ (f : List ℕ) (passes : AllPass meter_side f frame_tests) where
  framed_empty : (k : ℕ) → (k ≡ ui → ⊥) → Framed f (reply_frame (head_of f) k [])
  framed_empty k other = framed_bare f (odd_all f passes) k [] (omega arith) other

  framed_apdu : (bs : List ℕ) → 0 < length bs → length bs ≤ apdu_room longest_sent → Framed f (apdu_frame (head_of f) bs)
  unfolding longest_sent apdu_room
  framed_apdu bs some h =
      framed_reply f (odd_all f passes) ui (reply_llc ++ bs) (omega (arith, length-append reply_llc bs))
      (λ c to e. all_pass (client_side c) (apdu_frame (head_of f) bs) frame_tests (reply_passes c (head_of f) to (meter_all f passes) bs some (omega arith)))

  framed_exception : (e : Exception) → Framed f (apdu_frame (head_of f) (exception_bytes e))
  framed_exception e = let n = length_exception e in framed_apdu (exception_bytes e) (omega arith) (omega (arith, apdu_room_lem))

  framed_sealed : (k : Keys) (title : List ℕ) (tag number : ℕ) (text : List ℕ) {size : ℕ} → length text ≡ size → size ≤ text_room longest_sent → Framed f (apdu_frame (head_of f) (sealed_envelope k title tag number text))
  framed_sealed k title tag number text {size} e h =
      let n = length_envelope k title tag number text in
      framed_apdu (sealed_envelope k title tag number text) (omega (arith, envelope_size (length text))) (omega (arith, envelope_fits (length text) (omega arith)))

  -- the body's answer, to V and to a client that ciphers
  framed_plain : (l : Line) (ak text : List ℕ) → 0 < length text → length text ≤ text_room longest_sent → Framed f (seal l (wrap ak Verification (head_of f) 0xC0) text)
  unfolding seal around
  framed_plain l ak text some h = framed_apdu text some (omega (arith, apdu_room_lem, text_room_lem))

  framed_inside : (c : CipherClient) (l : Line) (ak text : List ℕ) (tag : ℕ) → length text ≤ text_room longest_sent → Framed f (seal l (wrap ak (Ciphering c) (head_of f) tag) text)
  unfolding seal around
  framed_inside c l ak text tag h = framed_sealed (dedicated_keys ak c l) l.title (answer_tag tag) (counters c l).sent text refl h

abbrev answered_numbers : List ℕ
answered_numbers = 0 ∷ 8 ∷ 9 ∷ 10 ∷ 11 ∷ 12 ∷ 13 ∷ []

unheard_number : {n : ℕ} → FrameNumber n → n < 8 → listed n answered_numbers ≡ true → ⊥
unheard_number four h e = false≢true e
unheard_number five h e = false≢true e
unheard_number eight h e = omega arith
unheard_number nine h e = omega arith

module _ (a : Lent) (m : Model) (title : length m.line.title ≡ 8) (challenge : length a.challenge ≡ 8) where
  abbrev f : List ℕ
  f = a.received

  abbrev l : Line
  l = m.line

  abbrev Sends : Outcome → Type 0
  Sends o = listed o.refusal answered_numbers ≡ true → Framed f o.sent

  -- an AARE with its envelope
  framed_accepted : AllPass meter_side f frame_tests → (c : CipherClient) (proposed : List ℕ) (number : ℕ)
      → Framed f (apdu_frame (head_of f) (ciphered_aare_head (Ciphering c) l.title a.challenge ++ sealed_envelope (lent_keys (secrets_of a)) l.title 0x28 number (initiate_response (common proposed (offered (Ciphering c))))))
  framed_accepted p c proposed number =
      let agreed = common proposed (offered (Ciphering c)) in
      let front = ciphered_aare_head (Ciphering c) l.title a.challenge in
      let response = sealed_envelope (lent_keys (secrets_of a)) l.title 0x28 number (initiate_response agreed) in
      let whole = length-append front response in
      let n = length_envelope (lent_keys (secrets_of a)) l.title 0x28 number (initiate_response agreed) in
      let k = length_head (Ciphering c) l.title title a.challenge agreed challenge (length_common proposed (offered (Ciphering c)) ∙ length_offered (Ciphering c)) in
      framed_apdu f p (front ++ response) (omega arith) (omega (arith, apdu_room_lem))

  framed_leaf : {r : Ruling} → by.Leaf l a r → Sends (settles (decided p2 (decision r) m))
  unfolding accepted_plain accepted_ciphered proved disproved
  framed_leaf (by.unheard t n) e = absurd (unheard_number (frame_number t) n e)
  framed_leaf (by.rejects t n first) e = framed_reject f (odd_rejected f t n first) t
  framed_leaf (by.no_link t from n) e = framed_empty f from.passes dm (λ q. omega arith)
  framed_leaf (by.goes_up c from p) e = framed_empty f from.passes ua (λ q. omega arith)
  framed_leaf (by.goes_down c from up) e = framed_empty f from.passes ua (λ q. omega arith)
  framed_leaf (by.excepts t {e = x} n r y) e = framed_exception f r.heard.passes x
  framed_leaf (by.departs c t) e = let n = length_rejected c in framed_apdu f t.reaches.heard.passes (rejected_aare c) (omega arith) (omega (arith, apdu_room_lem))
  framed_leaf (by.associates_plain proposed t) e =
      let agreed = common proposed (offered Verification) in
      let n = length-aare Verification l.title title agreed (length_common proposed (offered Verification)) in
      framed_apdu f t.reaches.heard.passes (plain_aare Verification l.title agreed) (omega arith) (omega (arith, apdu_room_lem))
  framed_leaf (by.begins c client key proposed n t) e = framed_accepted t.reaches.heard.passes c proposed _
  framed_leaf (by.releases c t) e = framed_apdu f t.reaches.heard.passes release_response (omega arith) (omega (arith, apdu_room_lem))
  framed_leaf (by.serves q t r) e =
      let q = request_of l Verification (apdu_in a) q in
      framed_plain f t.reaches.heard.passes l a.ak _ (turned_some q m.body) (turned_fits q m.body)
  framed_leaf (by.goes_on i n t b) e = framed_plain f t.reaches.heard.passes l a.ak _ (turned_some (go_on i n) m.body) (turned_fits (go_on i n) m.body)
  framed_leaf (by.unopened t) e = absurd (false≢true e)
  framed_leaf (by.drops c o w) e = absurd (false≢true e)
  framed_leaf (by.excepts_inside t c {e = x} k o w y) e = framed_exception f o.timely.reaches.heard.passes x
  framed_leaf (by.proves c invoke n o w) e = framed_sealed f o.timely.reaches.heard.passes _ _ _ _ _ (length_proved _ _ _ _ _) (omega (arith, text_room_lem))
  framed_leaf (by.disproves c invoke n o w) e = framed_sealed f o.timely.reaches.heard.passes _ _ _ _ _ refl (omega (arith, text_room_lem))
  framed_leaf (by.serves_inside c k {n} {text} q o w r) e =
      framed_inside f o.timely.reaches.heard.passes c (advanced c (accepted c n l)) a.ak _ (dedicated_tag k) (turned_fits (request_of l (Ciphering c) text q) m.body)
  framed_leaf (by.goes_on_inside c k {n} i j o w r b) e =
      framed_inside f o.timely.reaches.heard.passes c (advanced c (accepted c n l)) a.ak _ (dedicated_tag k) (turned_fits (go_on i j) m.body)

-- where refusal 2 is not met, the challenge has 8 bytes
lent_challenge : (a : Lent) → lent_refusal a ≡ 0 → length a.challenge ≡ 8
unfolding lent_refusal
lent_challenge a e =
    go (ltb a.room (reply_room longest_sent)) (not (eqb (length a.guk) 16)) (not (eqb (length a.ak) 16)) (eqb (length a.challenge) 8) refl e
  where
    go : (w x y z : Bool) → eqb (length a.challenge) 8 ≡ z → ◌≡◌ {A = ℕ} (cond w 1 (cond x 2 (cond y 2 (cond (not z) 2 0)))) 0 → length a.challenge ≡ 8
    go true x y z q h = absurd (omega arith)
    go false true y z q h = absurd (omega arith)
    go false false true z q h = absurd (omega arith)
    go false false false true q h = eqb-true (length a.challenge) 8 q
    go false false false false q h = absurd (omega arith)

pub answers : Answers
answers a m title =
    row_lent a m (λ o. listed o.refusal answered_numbers ≡ true → Framed a.received o.sent) (λ e. absurd (false≢true e)) (λ e. absurd (false≢true e)) (λ e. absurd (false≢true e))
    (λ lent _. framed_leaf a m title (lent_challenge a lent) (by.leaf m.line a))
