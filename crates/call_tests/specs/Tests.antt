-- The tests of a frame call (document 02, Q-2: "the test that failed .. one for each test of 01"; and those of Q-4): what a call
-- looks like that fails each, by itself and whatever the others say; and their order. A test looks at the meter and at what is
-- lent, by the fields and the readers that it is about. A call that it is not about passes it: no link-up fails a test of APDUs.
use Rattle.std.specs.Prelude.{Bool, true, false, not, cond, ◌&&◌, ◌||◌, List, [], ◌∷◌, ◌++◌, map, ℕ, eqb, ltb, leb, length, drop, Option, Some, None, Ok, Err}
use Rattle.wire.specs.Reading.{part}
use Rattle.model.specs.declared.Client.{Client}
use Rattle.model.specs.declared.Client.TheVariants.{Verification, Ciphering}
use Rattle.model.specs.declared.CipherClient.{CipherClient}
use Rattle.model.specs.Limits.{longest_sent, reply_room, data_room}
use Rattle.model.specs.Selecting.{Selection, all, selected, range_selector, entry_selector, is_range_descriptor, from_clock, to_clock, good_range, is_entry_descriptor, from_entry, to_entry, from_column, to_column}
use Rattle.model.specs.State.{Transfer, idle, running, ended, Line, Body, Model}
use Rattle.model.specs.Soundness.{passes, soundness_tests}
use Rattle.model.specs.Objects.{Object, Meaning, known, unknown, meaning, serves, Service, get, action, Request, Inquiry, ask, go_on, Picked, these, wrong, attribute_data, entries_wrong, takes_selector, selected_rows, good_parameter}
use Rattle.model.specs.Calls.{Lent}
use Rattle.hdlc.specs.declared.Frame.{Frame}
use Rattle.hdlc.specs.declared.Frame.TheVariants.{Unanswered, Rejected, LinkUp, LinkDown, Apdu}
use Rattle.hdlc.specs.Tests.{fails, meter_side, frame_tests}
use Rattle.hdlc.specs.Reading.{read_frame}
use Rattle.cosem.specs.declared.Tag.{Tag}
use Rattle.cosem.specs.declared.Tag.TheVariants.{Aarq, Rlrq, PlainRequest, GlobalAction, DedicatedRequest, Unknown}
use Rattle.cosem.specs.declared.Asked.{Asked}
use Rattle.cosem.specs.declared.Reading.{Reading}
use Rattle.cosem.specs.declared.Reading.TheVariants.{Asks, GoesOn}
use Rattle.cosem.specs.Tags.{dedicated_tag, tag_in, is_release}
use Rattle.cosem.specs.Requests.{read_action, read_service, requested}
use Rattle.acse.specs.declared.Aarq.{Aarq as ReadAarq}
use Rattle.acse.specs.declared.Aarq.TheVariants.{Plain, Ciphered}
use Rattle.acse.specs.declared.InitiateRequest.{InitiateRequest}
use Rattle.acse.specs.Clients.{ciphers}
use Rattle.acse.specs.Initiate.{read_request}
use Rattle.acse.specs.Aarq.{read_aarq}
use Rattle.gcm.specs.Gcm.{authentic}
use Rattle.counters.specs.Window.{in_window}
use Rattle.material.specs.Material.{Keys, nonce, associated_data}
use Rattle.envelope.specs.declared.Shape.{Shape}
use Rattle.envelope.specs.Opening.{shape_of, Opened, fails as stays, opens, opened}
use Rattle.protocol.specs.declared.Secrets.{Secrets}
use Rattle.protocol.specs.Clients.{ciphering, peer, counters, agreed_in, selective_in, blocks_in, lent_keys, dedicated_keys, permitted, bit_agreed, is_unknown}
use Rattle.protocol.specs.Decide.{held_by_p5, is_challenge, proves_itself, secrets_of}
use Rattle.call_tests.specs.declared.LentTest.{LentTest}
use Rattle.call_tests.specs.declared.LentTest.TheVariants.{ReplyRoom, GukLength, AkLength, ChallengeLength}
use Rattle.call_tests.specs.declared.LineTest.{LineTest}
use Rattle.call_tests.specs.declared.LineTest.TheVariants.{LinkUpWithInformation, P5HoldsV, LinkDownWhileDown, DataWhileDown, UnknownTag, TagNotPermitted, BitNotAgreed, AarqNotAccepted, EnvelopeShape, EnvelopeTag, CounterWindow, MalformedApdu, NotTheChallenge, WrongProof}
use Rattle.call_tests.specs.declared.BodyTest.{BodyTest}
use Rattle.call_tests.specs.declared.BodyTest.TheVariants.{NameUnknown, ClassWrong, NotServed, ParameterShape, EntriesWrong, RangeWrong, AnswerTooLong, TransferEnded, NoTransfer, BlockNumber}
use Rattle.call_tests.specs.declared.CallTest.{CallTest}
use Rattle.call_tests.specs.Finding.{Finding}
use Rattle.call_tests.specs.declared.CallTest.TheVariants.{Lent as OfLent, Sound as OfState, Frame as OfFrame, Line as OfLine, Body as OfBody}

-- What is lent.

-- "reply room below 779"; "lent GUK or AK not 16 bytes, or challenge not 8"
abbrev pub lent_fails : Lent → LentTest → Bool
lent_fails a ReplyRoom = ltb a.room (reply_room longest_sent)
lent_fails a GukLength = not (eqb (length a.guk) 16)
lent_fails a AkLength = not (eqb (length a.ak) 16)
lent_fails a ChallengeLength = not (eqb (length a.challenge) 8)

-- What a frame is: the tests that are about a link-up, a link-down, an APDU.

abbrev pub on_link_up : Frame → (Client → (information : Bool) → Bool) → Bool
on_link_up (Unanswered t) g = false
on_link_up (Rejected t h) g = false
on_link_up (LinkUp c h information) g = g c information
on_link_up (LinkDown c h) g = false
on_link_up (Apdu c h from to) g = false

abbrev pub on_link_down : Frame → (Client → Bool) → Bool
on_link_down (Unanswered t) g = false
on_link_down (Rejected t h) g = false
on_link_down (LinkUp c h information) g = false
on_link_down (LinkDown c h) g = g c
on_link_down (Apdu c h from to) g = false

-- the client and its APDU
abbrev pub on_apdu : (received : List ℕ) → Frame → (Client → List ℕ → Bool) → Bool
on_apdu f (Unanswered t) g = false
on_apdu f (Rejected t h) g = false
on_apdu f (LinkUp c h information) g = false
on_apdu f (LinkDown c h) g = false
on_apdu f (Apdu c h from to) g = g c (part from to f)

-- An AARQ.

abbrev pub on_aarq : Tag → Bool → Bool
on_aarq Aarq b = b
on_aarq Rlrq b = false
on_aarq (PlainRequest k) b = false
on_aarq GlobalAction b = false
on_aarq (DedicatedRequest k) b = false
on_aarq Unknown b = false

abbrev pub on_opened : Opened → ((counter : ℕ) → (text : List ℕ) → Bool) → Bool
on_opened stays g = false
on_opened (opens counter text) g = g counter text

abbrev pub initiate_accepted : Option InitiateRequest → Bool
initiate_accepted (Some x) = true
initiate_accepted None = false

-- V's is plain; that of a client that ciphers has its initiate request in an envelope, tag 21, under GUK
abbrev pub ciphered_accepted : Line → Secrets → Client → (envelope : List ℕ) → Bool
ciphered_accepted l a Verification e = false
ciphered_accepted l a (Ciphering c) e =
    on_opened (opened (lent_keys a) (ciphering c l).peer.title 0x21 e) (λ counter text. initiate_accepted (read_request text))

-- "any departure, an envelope that does not open included, is refusal 11"
abbrev pub aarq_accepted : Line → Secrets → Client → List ℕ → Option ReadAarq → Bool
aarq_accepted l a c s (Some (Plain p)) = not (ciphers c)
aarq_accepted l a c s (Some (Ciphered d e)) = ciphered_accepted l a c (drop e s)
aarq_accepted l a c s None = false

-- An envelope outside an AARQ.

-- its client, its keys and its tag: "GUK for .. CB", "the dedicated key for D0, D3"
abbrev pub on_envelope : Line → Secrets → Client → Tag → (CipherClient → Keys → (tag : ℕ) → Bool) → Bool
on_envelope l a Verification t g = false
on_envelope l a (Ciphering c) Aarq g = false
on_envelope l a (Ciphering c) Rlrq g = false
on_envelope l a (Ciphering c) (PlainRequest k) g = false
on_envelope l a (Ciphering c) GlobalAction g = g c (lent_keys a) 0xCB
on_envelope l a (Ciphering c) (DedicatedRequest k) g = g c (dedicated_keys a.ak c l) (dedicated_tag k)
on_envelope l a (Ciphering c) Unknown g = false

abbrev pub is_misshapen : Option Shape → Bool
is_misshapen None = true
is_misshapen (Some x) = false

-- the counter that stands in it, and the places of cipher text and GCM tag
abbrev pub on_shaped : Option Shape → ((counter from to : ℕ) → Bool) → Bool
on_shaped None g = false
on_shaped (Some x) g = g x.counter x.text x.tag

-- the GCM tag is not that of the cipher text
abbrev pub forged : Keys → (title : List ℕ) → List ℕ → (counter from to : ℕ) → Bool
forged k title s counter from to =
    not (authentic k.key (nonce title counter) (associated_data k) (part from to s) (drop to s))

-- what opens of it
abbrev pub on_inside : Line → Secrets → Client → List ℕ → Tag → (CipherClient → (counter : ℕ) → (text : List ℕ) → Bool) → Bool
on_inside l a c s t g = on_envelope l a c t (λ d k tag. on_opened (opened k (ciphering d l).peer.title tag s) (g d))

-- A request, by itself or in an envelope.

-- it cannot be read; or it is a numbered request: "without the bit it stays malformed"
abbrev pub is_malformed : (blocks : Bool) → Option Reading → Bool
is_malformed blocks None = true
is_malformed blocks (Some (Asks q)) = false
is_malformed blocks (Some (GoesOn i n)) = not blocks

abbrev pub on_asks : Option Reading → (Asked → Bool) → Bool
on_asks None g = false
on_asks (Some (Asks q)) g = g q
on_asks (Some (GoesOn i n)) g = false

-- what is asked of the body: a request of the client, with what was agreed, or a numbered request
abbrev pub on_inquiry : Line → Client → List ℕ → Option Reading → (Inquiry → Bool) → Bool
on_inquiry l c s None g = false
on_inquiry l c s (Some (Asks q)) g = g (ask (requested c (selective_in c l) (blocks_in c l) s q))
on_inquiry l c s (Some (GoesOn i n)) g = blocks_in c l && g (go_on i n)

-- "a malformed APDU other than an AARQ"; an ACTION is no numbered request
abbrev pub malformed_in : Line → Secrets → Client → List ℕ → Tag → Bool
malformed_in l a c s Aarq = false
malformed_in l a c s Rlrq = not (is_release s)
malformed_in l a c s (PlainRequest k) = is_malformed (blocks_in c l) (read_service k s)
malformed_in l a c s GlobalAction = on_inside l a c s GlobalAction (λ d counter text. is_malformed false (read_action text))
malformed_in l a c s (DedicatedRequest k) =
    on_inside l a c s (DedicatedRequest k) (λ d counter text. is_malformed (blocks_in c l) (read_service k text))
malformed_in l a c s Unknown = false

-- an ACTION that answers the challenge, or should: CB, which is permitted while pending alone
abbrev pub on_answer : Line → Secrets → Client → List ℕ → Tag → (CipherClient → (counter : ℕ) → (text : List ℕ) → Asked → Bool) → Bool
on_answer l a c s Aarq g = false
on_answer l a c s Rlrq g = false
on_answer l a c s (PlainRequest k) g = false
on_answer l a c s GlobalAction g = on_inside l a c s GlobalAction (λ d counter text. on_asks (read_action text) (g d counter text))
on_answer l a c s (DedicatedRequest k) g = false
on_answer l a c s Unknown g = false

-- a request for the body
abbrev pub on_request : Line → Secrets → Client → List ℕ → Tag → (Inquiry → Bool) → Bool
on_request l a c s Aarq g = false
on_request l a c s Rlrq g = false
on_request l a c s (PlainRequest k) g = on_inquiry l c s (read_service k s) g
on_request l a c s GlobalAction g = false
on_request l a c s (DedicatedRequest k) g =
    on_inside l a c s (DedicatedRequest k) (λ d counter text. on_inquiry l c text (read_service k text) g)
on_request l a c s Unknown g = false

-- Links, associations, envelopes and their counters. The frame was read as x.
abbrev pub line_fails : Line → Secrets → (received : List ℕ) → (x : Frame) → LineTest → Bool
-- "93 with information, or from V while P5 holds V"; 53 while down; "13 while down"
line_fails l a f x LinkUpWithInformation = on_link_up x (λ c information. information)
line_fails l a f x P5HoldsV = on_link_up x (λ c information. held_by_p5 c l)
line_fails l a f x LinkDownWhileDown = on_link_down x (λ c. not (peer c l).up)
line_fails l a f x DataWhileDown = on_apdu f x (λ c s. not (peer c l).up)
-- "a tag other than .."; "a tag not permitted here, or GET or ACTION without its agreed bit"
line_fails l a f x UnknownTag = on_apdu f x (λ c s. is_unknown (tag_in s))
line_fails l a f x TagNotPermitted = on_apdu f x (λ c s. not (permitted c (peer c l).association (tag_in s)))
line_fails l a f x BitNotAgreed = on_apdu f x (λ c s. not (bit_agreed (agreed_in (peer c l).association) (tag_in s)))
-- refusal 11, of an AARQ alone
line_fails l a f x AarqNotAccepted = on_apdu f x (λ c s. on_aarq (tag_in s) (not (aarq_accepted l a c s (read_aarq s c (peer c l).title))))
-- "then refusals 6 and 7": "shape and tag first (6), then the counter (7)"
line_fails l a f x EnvelopeShape = on_apdu f x (λ c s. on_envelope l a c (tag_in s) (λ d k tag. is_misshapen (shape_of tag s)))
line_fails l a f x EnvelopeTag =
    on_apdu f x (λ c s. on_envelope l a c (tag_in s) (λ d k tag. on_shaped (shape_of tag s) (forged k (ciphering d l).peer.title s)))
line_fails l a f x CounterWindow =
    on_apdu f x (λ c s. on_envelope l a c (tag_in s) (λ d k tag. on_shaped (shape_of tag s) (λ counter from to. not (in_window (counters d l).accepted counter))))
-- "then a malformed APDU ..; then, while pending, an ACTION other than the challenge's"; "a wrong proof, or any other parameter or none"
line_fails l a f x MalformedApdu = on_apdu f x (λ c s. malformed_in l a c s (tag_in s))
line_fails l a f x NotTheChallenge = on_apdu f x (λ c s. on_answer l a c s (tag_in s) (λ d counter text q. not (is_challenge d text q)))
line_fails l a f x WrongProof = on_apdu f x (λ c s. on_answer l a c s (tag_in s) (λ d counter text q. not (proves_itself l a d counter text q)))

-- A request for the body.

abbrev pub is_nothing : Meaning → Bool
is_nothing unknown = true
is_nothing (known o) = false

abbrev pub on_object : Meaning → (Object → Bool) → Bool
on_object unknown g = false
on_object (known o) g = g o

-- "attribute or method not served, or no right"
abbrev pub is_served : Object → Service → Bool
is_served o (get attribute s) = serves o.attributes attribute
is_served o (action method v) = serves o.methods method

-- a selector belongs to what is read
abbrev pub belongs : Request → Object → ℕ → Bool
belongs q o attribute = takes_selector o.content attribute && q.selective

-- "12 parameter of another shape, or where none belongs"
abbrev pub selection_shaped : (belongs : Bool) → Selection → Bool
selection_shaped b all = true
selection_shaped b (selected k v) =
    b && ((eqb k range_selector && is_range_descriptor v) || (eqb k entry_selector && is_entry_descriptor v))

abbrev pub is_shaped : Request → Object → Service → Bool
is_shaped q o (get attribute s) = selection_shaped (belongs q o attribute) s
is_shaped q o (action method v) = good_parameter v

-- "13 entries wrong", of a meter with so many rows
abbrev pub bad_entries : (rows : ℕ) → List ℕ → Bool
bad_entries n v = not (eqb (from_column v) 1 && eqb (to_column v) 0) || entries_wrong (from_entry v) (to_entry v) n

-- "from not before to, or a clock not valid, code 13"
abbrev pub bad_range : List ℕ → Bool
bad_range v = not (good_range (from_clock v) (to_clock v))

-- the value of this selector
abbrev pub on_selector : ℕ → Service → (List ℕ → Bool) → Bool
on_selector k (get attribute all) g = false
on_selector k (get attribute (selected j v)) g = eqb j k && g v
on_selector k (action method v) g = false

-- attribute 2 of the profile, block transfer agreed: "a read too long for one frame gives its first block"
abbrev pub in_blocks : Request → Object → ℕ → Bool
in_blocks q o attribute = takes_selector o.content attribute && q.blocks

-- "250 answer too long"
abbrev pub too_long : Request → Object → ℕ → Body → Picked → Bool
too_long q o attribute b (these rs) =
    not (leb (length (attribute_data o.content q.name attribute rs b)) (data_room longest_sent)) && not (in_blocks q o attribute)
too_long q o attribute b (wrong c) = false

abbrev pub answers_too_long : Request → Object → Body → Service → Bool
answers_too_long q o b (get attribute s) = too_long q o attribute b (selected_rows (belongs q o attribute) s b.store.rows)
answers_too_long q o b (action method v) = false

-- "codes, in order: 4 name unknown; 9 class wrong; 3 ..; 12 ..; 13 ..; 250 answer too long". The name means w to the client.
abbrev pub meaning_fails : Request → Body → (w : Meaning) → BodyTest → Bool
meaning_fails q b w NameUnknown = is_nothing w
meaning_fails q b w ClassWrong = on_object w (λ o. not (eqb q.class o.class))
meaning_fails q b w NotServed = on_object w (λ o. not (is_served o q.service))
meaning_fails q b w ParameterShape = on_object w (λ o. not (is_shaped q o q.service))
meaning_fails q b w EntriesWrong = on_selector entry_selector q.service (bad_entries (length b.store.rows))
meaning_fails q b w RangeWrong = on_selector range_selector q.service bad_range
meaning_fails q b w AnswerTooLong = on_object w (λ o. answers_too_long q o b q.service)
meaning_fails q b w TransferEnded = false
meaning_fails q b w NoTransfer = false
meaning_fails q b w BlockNumber = false

abbrev pub body_fails : Request → Body → BodyTest → Bool
body_fails q b t = meaning_fails q b (meaning q.client q.name b.store.registers) t

-- A numbered request, by the number of the block received last and the transfer of the meter.

abbrev pub is_ended : Transfer → Bool
is_ended idle = false
is_ended (running x k) = false
is_ended ended = true

abbrev pub is_idle : Transfer → Bool
is_idle idle = true
is_idle (running x k) = false
is_idle ended = false

-- the block that went out last
abbrev pub on_running : Transfer → (ℕ → Bool) → Bool
on_running idle g = false
on_running (running x k) g = g k
on_running ended g = false

-- "in this order: ended meanwhile, code 15; else none running, code 16; wrong block number, code 19"
abbrev pub number_fails : (number : ℕ) → Transfer → BodyTest → Bool
number_fails n t NameUnknown = false
number_fails n t ClassWrong = false
number_fails n t NotServed = false
number_fails n t ParameterShape = false
number_fails n t EntriesWrong = false
number_fails n t RangeWrong = false
number_fails n t AnswerTooLong = false
number_fails n t TransferEnded = is_ended t
number_fails n t NoTransfer = is_idle t
number_fails n t BlockNumber = on_running t (λ k. not (eqb n k))

abbrev pub inquiry_fails : Inquiry → Body → BodyTest → Bool
inquiry_fails (ask q) b t = body_fails q b t
inquiry_fails (go_on i n) b t = number_fails n b.transfer t

-- A call.

-- the call fails the test
abbrev pub call_fails : Model → Lent → CallTest → Bool
call_fails m a (OfLent t) = lent_fails a t
call_fails m a (OfState t) = not (passes t m)
call_fails m a (OfFrame t) = fails meter_side t a.received
call_fails m a (OfLine t) = line_fails m.line (secrets_of a) a.received (read_frame a.received) t
call_fails m a (OfBody t) =
    on_apdu a.received (read_frame a.received) (λ c s. on_request m.line (secrets_of a) c s (tag_in s) (λ q. inquiry_fails q m.body t))

-- The order: "frame calls test 1, 2, 3, then the frame".

abbrev pub lent_tests : List LentTest
lent_tests = ReplyRoom ∷ GukLength ∷ AkLength ∷ ChallengeLength ∷ []

abbrev pub line_tests : List LineTest
line_tests =
    LinkUpWithInformation
    ∷ P5HoldsV
    ∷ LinkDownWhileDown
    ∷ DataWhileDown
    ∷ UnknownTag
    ∷ TagNotPermitted
    ∷ BitNotAgreed
    ∷ AarqNotAccepted
    ∷ EnvelopeShape
    ∷ EnvelopeTag
    ∷ CounterWindow
    ∷ MalformedApdu
    ∷ NotTheChallenge
    ∷ WrongProof
    ∷ []

abbrev pub body_tests : List BodyTest
body_tests =
    NameUnknown
    ∷ ClassWrong
    ∷ NotServed
    ∷ ParameterShape
    ∷ EntriesWrong
    ∷ RangeWrong
    ∷ AnswerTooLong
    ∷ TransferEnded
    ∷ NoTransfer
    ∷ BlockNumber
    ∷ []

abbrev pub call_tests : List CallTest
call_tests = map OfLent lent_tests ++ (map OfState soundness_tests ++ (map OfFrame frame_tests ++ (map OfLine line_tests ++ map OfBody body_tests)))

-- the first test of a list that fails
unfoldable pub first_failing : (CallTest → Bool) → List CallTest → Finding
first_failing g [] = Ok tt
first_failing g (t ∷ ts) = cond (g t) (Err t) (first_failing g ts)

-- what a call comes to
unfoldable pub found : Model → Lent → Finding
found m a = first_failing (call_fails m a) call_tests
