-- The lazy meters that document 01 names ("What the contracts owe the archive"), each shut out by what its calls come to: "the
-- meter that is always silent, the one that answers DM to all, the one that leaves its state unchanged (a link-up must let an
-- AARQ in), the one that takes the first row and only pretends at the second, and one with an invented record number or
-- counter". Proved in proofs/LinkUp, proofs/Entrance, proofs/Enclosed and proofs/SecondRow. Of the record number speak `DueTicks` and
-- `NumberStays` of the model, proved at this protocol in proofs/Claim. What is let in is told with document 02's steps of counters (Q-3), and
-- so is what is not: a window that takes any counter, and a proof that proves nothing.
use Rattle.std.specs.Prelude.{◌≡◌, true, false, List, [], ◌∷◌, ◌++◌, ℕ, ◌-◌, ◌^◌, ◌≤◌, ◌<◌, length, take, Option, Some, None}
use Rattle.wire.specs.Numbers.{number_high}
use Rattle.model.specs.declared.Client.{Client}
use Rattle.model.specs.declared.Client.TheVariants.{Verification, Ciphering}
use Rattle.model.specs.declared.CipherClient.{CipherClient}
use Rattle.model.specs.declared.CipherClient.TheVariants.{Han}
use Rattle.model.specs.declared.Clock.{Clock}
use Rattle.model.specs.Limits.{longest_sent, longest_received, reply_room, envelope_length, greatest_apdu, data_room, least_size, max_rows}
use Rattle.model.specs.Clocks.{valid_clock}
use Rattle.model.specs.Periods.{capture_due}
use Rattle.model.specs.Services.{offered, common}
use Rattle.model.specs.State.{none, pending, associated, Line, idle, with_transfer, Model, with_body, Entry, new_meter}
use Rattle.model.specs.Soundness.{sound}
use Rattle.model.specs.Objects.{Inquiry, denied, granted, rows_data, get_answer, action_answer, turned}
use Rattle.model.specs.Calls.{Lent, owner, tick, Outcome, settled, step}
use Rattle.model.specs.Archive.{rows_of, due_row}
use Rattle.hdlc.specs.declared.Head.{Head}
use Rattle.hdlc.specs.declared.Frame.TheVariants.{LinkUp}
use Rattle.hdlc.specs.Layout.{ui, frame_of}
use Rattle.hdlc.specs.Addresses.{meter_address, address_of}
use Rattle.hdlc.specs.Tests.{request_llc}
use Rattle.hdlc.specs.Reading.{read_frame}
use Rattle.hdlc.specs.Replies.{ua_frame, dm_frame, apdu_frame}
use Rattle.cosem.specs.declared.Asked.{Asked}
use Rattle.cosem.specs.declared.Reading.TheVariants.{Asks}
use Rattle.cosem.specs.declared.Tag.TheVariants.{DedicatedRequest}
use Rattle.cosem.specs.declared.ServiceKind.{ServiceKind}
use Rattle.cosem.specs.declared.ServiceKind.TheVariants.{Get}
use Rattle.cosem.specs.Tags.{dedicated_tag}
use Rattle.cosem.specs.Requests.{read_service}
use Rattle.acse.specs.Clients.{plain_context, ciphered_context, no_security, gmac_security}
use Rattle.acse.specs.Initiate.{initiate_response}
use Rattle.acse.specs.Aare.{plain_aare, ciphered_aare_head}
use Rattle.counters.specs.Advance.{next_counter}
use Rattle.counters.specs.Steps.{StepsInside, StepsOutside, StepsBetween}
use Rattle.material.specs.Material.{Keys, keys_from}
use Rattle.envelope.specs.Layout.{sealed_envelope}
use Rattle.envelope.specs.Opening.{opens, opened}
use Rattle.envelope.specs.Challenge.{proof_value}
use Rattle.meter.specs.SameSecond.{next_row}
use Rattle.protocol.specs.Clients.{ciphering, held, peer, with_peer, linked, associates, counters, with_counters, key_in}
use Rattle.protocol.specs.Rulings.{proved_text}
use Rattle.protocol.specs.Decide.{request_of, accepted, advanced, p2}
use Rattle.protocol.specs.Examples.{link_up_frame}
use Rattle.protocol.specs.Outcomes.{outcome, head_in, apdu_of, replied, said, MaySend, to_h}

-- enough is lent: neither "reply room below 779", nor "lent GUK or AK not 16 bytes, or challenge not 8"
pub record Enough (a : Lent) : Type 0 where
  pub room : reply_room longest_sent ≤ a.room
  pub guk : length a.guk ≡ 16
  pub ak : length a.ak ≡ 16
  pub challenge : length a.challenge ≡ 8

-- the frame of a client's request
abbrev pub request_frame : Client → List ℕ → List ℕ
request_frame c apdu = frame_of meter_address (address_of c) ui (request_llc ++ apdu)

-- "A link-up must let an AARQ in."

-- V's AARQ with this title, these proposed services and this size
unfoldable pub aarq_of_v : (title services size : List ℕ) → List ℕ
aarq_of_v title services size =
    (0x60 ∷ 0x32 ∷ 0xA1 ∷ 0x09 ∷ 0x06 ∷ 0x07 ∷ [])
    ++ plain_context
    ++ (0xA6 ∷ 0x0A ∷ 0x04 ∷ 0x08 ∷ [])
    ++ title
    ++ (0x8B ∷ 0x07 ∷ [])
    ++ no_security
    ++ (0xBE ∷ 0x10 ∷ 0x04 ∷ 0x0E ∷ 0x01 ∷ 0x00 ∷ 0x00 ∷ 0x00 ∷ 0x06 ∷ 0x5F ∷ 0x1F ∷ 0x04 ∷ 0x00 ∷ [])
    ++ services
    ++ size

-- a link-up of the client without information
abbrev pub LinksUp : Client → Lent → Type 0
LinksUp c a = read_frame a.received ≡ LinkUp c (head_in a) false

-- the line with the client's link up
abbrev pub up : Client → Line → Line
up c l = with_peer c (linked true (peer c l)) l

-- a link-up and then an AARQ, each answered as 01 says, and what the meter is after each
pub record LetIn (m : Model) (link aarq : Lent) (services : List ℕ) : Type 0 where
  pub first : outcome link m ≡ said 0 (ua_frame (head_in link)) (up Verification m.line) m
  pub second :
      outcome aarq (outcome link m).next
      ≡ said 0 (apdu_frame (head_in aarq) (plain_aare Verification m.line.title (common services (offered Verification))))
      (associates Verification (associated (common services (offered Verification)) []) (up Verification m.line)) m

-- on every sound meter whose V is not held by P5
abbrev pub LinkUpLetsIn : Type 0
LinkUpLetsIn =
    (m : Model) (link aarq : Lent) (services size : List ℕ)
    → sound m ≡ true
    → m.line.p5 ≡ false
    → length m.line.verification.title ≡ 8
    → Enough link
    → Enough aarq
    → length services ≡ 3
    → length size ≡ 2
    → least_size longest_sent ≤ number_high size
    → LinksUp Verification link
    → aarq.received ≡ request_frame Verification (aarq_of_v m.line.verification.title services size)
    → LetIn m link aarq services

-- "from V while P5 holds V": the same link-up is answered by DM, and the meter is unchanged
abbrev pub HeldOff : Type 0
HeldOff =
    (m : Model) (link : Lent)
    → sound m ≡ true
    → m.line.p5 ≡ true
    → Enough link
    → LinksUp Verification link
    → outcome link m ≡ replied 10 (dm_frame (head_in link)) m

-- and on a new one an AARQ is let in, by the frame of marked example 2
abbrev pub NewMeterLetsIn : Type 0
NewMeterLetsIn =
    (device title verification han : List ℕ) (link aarq : Lent) (services size : List ℕ)
    → length verification ≡ 8
    → Enough link
    → Enough aarq
    → length services ≡ 3
    → length size ≡ 2
    → least_size longest_sent ≤ number_high size
    → link.received ≡ link_up_frame
    → aarq.received ≡ request_frame Verification (aarq_of_v verification services size)
    → LetIn (new_meter device title verification han) link aarq services

-- "always silent", "DM to all": the link-up's answer is not nothing, and no DM
pub record Speaks (sent : List ℕ) : Type 0 where
  pub not_silent : sent ≡ [] → ⊥
  pub no_dm : (h : Head) → sent ≡ dm_frame h → ⊥

abbrev pub LinkUpAnswered : Type 0
LinkUpAnswered =
    (m : Model) (link : Lent)
    → sound m ≡ true
    → m.line.p5 ≡ false
    → Enough link
    → LinksUp Verification link
    → Speaks (outcome link m).sent

-- A client that ciphers is let in as well: by a link-up, an AARQ, and the challenge answered.

-- its initiate request with this dedicated key, these proposed services and this size
unfoldable pub keyed_initiate : (key services size : List ℕ) → List ℕ
keyed_initiate key services size =
    (0x01 ∷ 0x01 ∷ 0x10 ∷ []) ++ key ++ (0x00 ∷ 0x00 ∷ 0x06 ∷ 0x5F ∷ 0x1F ∷ 0x04 ∷ 0x00 ∷ []) ++ services ++ size

-- its AARQ around an envelope
unfoldable pub aarq_around : (title challenge envelope : List ℕ) → List ℕ
aarq_around title challenge envelope =
    (0x60 ∷ 0x66 ∷ 0xA1 ∷ 0x09 ∷ 0x06 ∷ 0x07 ∷ [])
    ++ ciphered_context
    ++ (0xA6 ∷ 0x0A ∷ 0x04 ∷ 0x08 ∷ [])
    ++ title
    ++ (0x8A ∷ 0x02 ∷ 0x07 ∷ 0x80 ∷ 0x8B ∷ 0x07 ∷ [])
    ++ gmac_security
    ++ (0xAC ∷ 0x0A ∷ 0x80 ∷ 0x08 ∷ [])
    ++ challenge
    ++ (0xBE ∷ 0x34 ∷ 0x04 ∷ 0x32 ∷ [])
    ++ envelope

-- the ACTION with its proof: class 15, method 1, and the name of its challenge; of H 0.0.40.0.4.255
abbrev pub challenge_byte : CipherClient → ℕ
challenge_byte Han = 4

unfoldable pub proof_action : CipherClient → (invoke : ℕ) → (proof : List ℕ) → List ℕ
proof_action c invoke proof =
    (0xC3 ∷ 0x01 ∷ invoke ∷ 0x00 ∷ 0x0F ∷ 0x00 ∷ 0x00 ∷ 0x28 ∷ 0x00 ∷ challenge_byte c ∷ 0xFF ∷ 0x01 ∷ 0x01 ∷ []) ++ proof

-- The keys are those that the client has, told here apart from the meter's `lent_keys` and `dedicated_keys`: GUK, and AK beside it, until it
-- is associated; then its dedicated key, and AK beside it.
abbrev pub entrance_keys : Lent → Keys
entrance_keys a = keys_from a.guk a.ak

abbrev pub request_keys : CipherClient → Lent → Line → Keys
request_keys c a l = keys_from (key_in (held c l)) a.ak

-- what it sends: its dedicated key and challenge, its services and size, the counters of its AARQ, of its proof and of the
-- envelope around that, and the invoke byte
pub record Entrance : Type 0 where
  pub key : List ℕ
  pub challenge : List ℕ
  pub services : List ℕ
  pub size : List ℕ
  pub first : ℕ
  pub inner : ℕ
  pub outer : ℕ
  pub invoke : ℕ

-- of the right lengths, a size that is enough, and counters that are allowed. The AARQ's, of four bytes, becomes the last accepted; from it
-- the envelope's step is "1 to 180", and the inner one's "1 or more and below its envelope's" (document 02, Q-3).
pub record Allowed (e : Entrance) : Type 0 where
  pub key : length e.key ≡ 16
  pub challenge : length e.challenge ≡ 8
  pub services : length e.services ≡ 3
  pub size : length e.size ≡ 2
  pub enough : least_size longest_sent ≤ number_high e.size
  pub small : e.first < 256 ^ 4
  pub window : StepsInside e.first e.outer
  pub between : StepsBetween e.first e.outer e.inner

-- the three frames, by its title; the second is lent the challenge that the third answers
pub record Enters (c : CipherClient) (title : List ℕ) (e : Entrance) (link aarq proof : Lent) : Type 0 where
  pub links : LinksUp (Ciphering c) link
  pub asks :
      aarq.received
      ≡ request_frame (Ciphering c)
      (aarq_around title e.challenge
      (sealed_envelope (entrance_keys aarq) title 0x21 e.first (keyed_initiate e.key e.services e.size)))
  pub proves :
      proof.received
      ≡ request_frame (Ciphering c)
      (sealed_envelope (entrance_keys proof) title 0xCB e.outer
      (proof_action c e.invoke (proof_value (entrance_keys proof) title aarq.challenge e.inner)))

-- a meter without a transfer: that of H ended with the association before
abbrev pub without_transfer : Model → Model
without_transfer m = with_body (with_transfer idle m.body) m

-- each is accepted. The AARE's envelope goes out under the meter's counter plus one, and the client is pending; the meter's proof goes out
-- under the next, its envelope under the one after, and the client is associated with the services agreed and its key.
pub record LetInCiphering (c : CipherClient) (m : Model) (e : Entrance) (link aarq proof : Lent) : Type 0 where
  pub first : outcome link m ≡ said 0 (ua_frame (head_in link)) (up (Ciphering c) m.line) m
  pub second :
      outcome aarq (outcome link m).next
      ≡ (let sent = (counters c m.line).sent in
      let agreed = common e.services (offered (Ciphering c)) in
      said 0
      (apdu_frame (head_in aarq)
      (ciphered_aare_head (Ciphering c) m.line.title aarq.challenge
      ++ sealed_envelope (entrance_keys aarq) m.line.title 0x28 (next_counter sent) (initiate_response agreed)))
      (with_counters c (record { accepted = e.first; sent = next_counter sent })
      (associates (Ciphering c) (pending agreed e.key e.challenge aarq.challenge) (up (Ciphering c) m.line)))
      (without_transfer m))
  pub third :
      outcome proof (outcome aarq (outcome link m).next).next
      ≡ (let number = next_counter (next_counter (counters c m.line).sent) in
      let keys = entrance_keys proof in
      said 0
      (apdu_frame (head_in proof)
      (sealed_envelope keys m.line.title 0xCF (next_counter number) (proved_text keys m.line.title e.challenge e.invoke number)))
      (with_counters c (record { accepted = e.outer; sent = next_counter number })
      (associates (Ciphering c) (associated (common e.services (offered (Ciphering c))) e.key) (up (Ciphering c) m.line)))
      (without_transfer m))

abbrev pub CipheringLetIn : Type 0
CipheringLetIn =
    (c : CipherClient) (m : Model) (e : Entrance) (link aarq proof : Lent)
    → sound m ≡ true
    → length (ciphering c m.line).peer.title ≡ 8
    → Enough link
    → Enough aarq
    → Enough proof
    → Allowed e
    → Enters c (ciphering c m.line).peer.title e link aarq proof
    → LetInCiphering c m e link aarq proof

-- A proof that proves nothing.

-- a pending client sends a proof under the right keys, in an envelope whose counter is in the window
pub record Proving (c : CipherClient) (a : Lent) (l : Line) (outer inner invoke : ℕ) : Type 0 where
  pub enough : Enough a
  pub agreed : List ℕ
  pub key : List ℕ
  pub client : List ℕ
  pub challenge : List ℕ
  pub pends : held c l ≡ pending agreed key client challenge
  pub window : StepsInside (counters c l).accepted outer
  pub small : inner < 256 ^ 4
  pub received :
      a.received
      ≡ (let title = (ciphering c l).peer.title in
      request_frame (Ciphering c)
      (sealed_envelope (entrance_keys a) title 0xCB outer (proof_action c invoke (proof_value (entrance_keys a) title challenge inner))))

-- where the proof's own counter does not lie between the last accepted and the envelope's, it gets code 250, and the association has ended
abbrev pub WrongStepsDenied : Type 0
WrongStepsDenied =
    (c : CipherClient) (a : Lent) (m : Model) (outer inner invoke : ℕ)
    → sound m ≡ true
    → Proving c a m.line outer inner invoke
    → (StepsBetween (counters c m.line).accepted outer inner → ⊥)
    → outcome a m
    ≡ (let number = next_counter (counters c m.line).sent in
    said 13
    (apdu_frame (head_in a) (sealed_envelope (entrance_keys a) m.line.title 0xCF number (action_answer invoke (denied 250))))
    (with_counters c (record { accepted = outer; sent = number }) (associates (Ciphering c) none m.line))
    m)

-- An invented counter: every request in an envelope that is opened and read.

-- an associated client sends this text by this service, in an envelope under the dedicated key, with this counter
pub record Sending (c : CipherClient) (a : Lent) (l : Line) (k : ServiceKind) (counter : ℕ) (text : List ℕ) : Type 0 where
  pub enough : Enough a
  pub may : MaySend (Ciphering c) (held c l) (DedicatedRequest k)
  pub small : counter < 256 ^ 4
  pub short : envelope_length (length text) ≤ greatest_apdu longest_received
  pub received : a.received ≡ request_frame (Ciphering c) (sealed_envelope (request_keys c a l) (ciphering c l).peer.title (dedicated_tag k) counter text)

-- and the counter is 1 to 180 steps after the last accepted
pub record Asking (c : CipherClient) (a : Lent) (l : Line) (k : ServiceKind) (counter : ℕ) (text : List ℕ) : Type 0 where
  pub sends : Sending c a l k counter text
  pub window : StepsInside (counters c l).accepted counter

-- the body's answer, sealed under the meter's counter plus one, which the line then holds beside the client's
abbrev pub answer_of : CipherClient → Lent → Model → ServiceKind → (counter : ℕ) → Inquiry → Outcome
answer_of c a m k counter q =
    let t = turned q m.body in
    record {
      refusal = t.refusal;
      sent = to_h a m.line c (dedicated_tag k) t.bytes;
      next = settled (record { line = advanced c (accepted c counter m.line); body = t.body });
    }

-- to a request
abbrev pub answer_to : CipherClient → Lent → Model → ServiceKind → (counter : ℕ) → (text : List ℕ) → Asked → Outcome
answer_to c a m k counter text q = answer_of c a m k counter (request_of m.line (Ciphering c) text q)

abbrev pub NextCounter : Type 0
NextCounter =
    (c : CipherClient) (a : Lent) (m : Model) (k : ServiceKind) (counter : ℕ) (text : List ℕ) (q : Asked)
    → sound m ≡ true
    → Asking c a m.line k counter text
    → read_service k text ≡ Some (Asks q)
    → outcome a m ≡ answer_to c a m k counter text q

-- A window that takes any counter: with one outside nothing goes out, the number is 7, and the association has ended.
abbrev pub OutsideDropped : Type 0
OutsideDropped =
    (c : CipherClient) (a : Lent) (m : Model) (k : ServiceKind) (counter : ℕ) (text : List ℕ)
    → sound m ≡ true
    → Sending c a m.line k counter text
    → StepsOutside (counters c m.line).accepted counter
    → outcome a m ≡ said 7 [] (associates (Ciphering c) none m.line) m

-- "After 4294967290, the counter 5 passes (step 11) and 4294967290 doesn't."
pub record OverTheTop : Type 0 where
  pub passes :
      (c : CipherClient) (a : Lent) (m : Model) (k : ServiceKind) (text : List ℕ) (q : Asked)
      → sound m ≡ true
      → (counters c m.line).accepted ≡ 4294967290
      → Sending c a m.line k 5 text
      → read_service k text ≡ Some (Asks q)
      → outcome a m ≡ answer_to c a m k 5 text q
  pub fails :
      (c : CipherClient) (a : Lent) (m : Model) (k : ServiceKind) (text : List ℕ)
      → sound m ≡ true
      → (counters c m.line).accepted ≡ 4294967290
      → Sending c a m.line k 4294967290 text
      → outcome a m ≡ said 7 [] (associates (Ciphering c) none m.line) m

-- and there is such a meter, and a frame of either kind
pub record OverTheTopHappens : Type 0 where
  pub meter : Model
  pub text : List ℕ
  pub asked : Asked
  pub later : Lent
  pub again : Lent
  pub is_sound : sound meter ≡ true
  pub last : (counters Han meter.line).accepted ≡ 4294967290
  pub reads : read_service Get text ≡ Some (Asks asked)
  pub goes_on : Sending Han later meter.line Get 5 text
  pub repeats : Sending Han again meter.line Get 4294967290 text

-- "The one that takes the first row and only pretends at the second."

-- the meter after two ticks of the same clock
abbrev pub twice : Clock → Model → Model
twice t m = (step p2 (owner (tick t)) (step p2 (owner (tick t)) m).next).next

-- both rows, and the older ones, of which at most thirteen are kept
abbrev pub both_rows : Clock → Model → List Entry
both_rows t m = next_row (due_row t m.body) ∷ due_row t m.body ∷ take (max_rows - 2) (rows_of m)

-- a GET of attribute 2 of the profile, with this invoke byte: class 7, 0.0.21.0.6.255
abbrev pub get_profile : ℕ → List ℕ
get_profile invoke =
    0xC0 ∷ 0x01 ∷ invoke ∷ 0x00 ∷ 0x07 ∷ 0x00 ∷ 0x00 ∷ 0x15 ∷ 0x00 ∷ 0x06 ∷ 0xFF ∷ 0x02 ∷ 0x00 ∷ []

-- the answer to H's GET of the profile, and what H finds in it: the APDU of the frame opens under H's keys and the meter's title,
-- with the meter's counter plus one, and the text in it is the rows
pub record RowsRead (a : Lent) (m : Model) (t : Clock) (counter invoke : ℕ) : Type 0 where
  pub answer :
      outcome a (twice t m)
      ≡ record {
        refusal = 0;
        sent = to_h a m.line Han 0xD0 (get_answer invoke (granted (rows_data (both_rows t m))));
        next = record { line = advanced Han (accepted Han counter m.line); body = with_transfer idle (twice t m).body };
      }
  pub found :
      opened (request_keys Han a m.line) m.line.title 0xD4 (apdu_of (outcome a (twice t m)).sent)
      ≡ opens (next_counter m.line.han.counters.sent) (get_answer invoke (granted (rows_data (both_rows t m))))

-- after two due ticks of the same clock H reads both rows, in an envelope, where they fit one
abbrev pub SecondRowRead : Type 0
SecondRowRead =
    (a : Lent) (m : Model) (t : Clock) (counter invoke : ℕ)
    → sound m ≡ true
    → valid_clock t ≡ true
    → capture_due m.body.period t ≡ true
    → Asking Han a m.line Get counter (get_profile invoke)
    → length (rows_data (both_rows t m)) ≤ data_room longest_sent
    → RowsRead a m t counter invoke

-- and there is such a meter, clock and frame
pub record SecondRowHappens : Type 0 where
  pub lent : Lent
  pub meter : Model
  pub clock : Clock
  pub counter : ℕ
  pub invoke : ℕ
  pub is_sound : sound meter ≡ true
  pub is_valid : valid_clock clock ≡ true
  pub is_due : capture_due meter.body.period clock ≡ true
  pub asks : Asking Han lent meter.line Get counter (get_profile invoke)
  pub fits : length (rows_data (both_rows clock meter)) ≤ data_room longest_sent
