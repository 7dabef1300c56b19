-- The tests on the road that the code goes: what a frame comes to, step by step, in the order of crate protocol's rulings. The functions
-- of the crate diagnosis promise each other these; that they come to the first failing test of the list is proved in proofs/Road, and no
-- claim rests on the reader's belief in them.
use Rattle.std.specs.Prelude.{Bool, not, cond, ◌&&◌, List, map, ℕ, eqb, leb, length, Option, Some, None, Ok, Err}
use Rattle.wire.specs.Reading.{part}
use Rattle.model.specs.declared.Client.{Client}
use Rattle.model.specs.declared.Client.TheVariants.{Verification, Ciphering}
use Rattle.model.specs.declared.CipherClient.{CipherClient}
use Rattle.model.specs.declared.SoundnessTest.{SoundnessTest}
use Rattle.model.specs.declared.SoundnessTest.TheVariants.{RegisterList, ColumnList, PeriodPermitted, ClockValid, RowClocksValid, RowCount, RowCells, AssociationKind, AssociationOnLink, AgreedServices, TransferPossible}
use Rattle.model.specs.Limits.{max_rows}
use Rattle.model.specs.Names.{every}
use Rattle.model.specs.Clocks.{valid_clock}
use Rattle.model.specs.Periods.{permitted_period}
use Rattle.model.specs.Selecting.{Selection, all, selected, range_selector}
use Rattle.model.specs.State.{Transfer, idle, running, ended, Line, Body, Model}
use Rattle.model.specs.Soundness.{accepted_registers, accepted_columns, kinds_known, links_stand, services_offered, allowed, rows_allow, soundness_tests}
use Rattle.model.specs.Objects.{Meaning, meaning, Service, get, action, Request, Result, granted, begun, denied, attribute_read, method_invoked}
use Rattle.model.specs.Calls.{Lent}
use Rattle.hdlc.specs.declared.Frame.{Frame}
use Rattle.hdlc.specs.declared.Frame.TheVariants.{Unanswered, Rejected, LinkUp, LinkDown, Apdu}
use Rattle.hdlc.specs.Reading.{read_frame}
use Rattle.cosem.specs.declared.Tag.{Tag}
use Rattle.cosem.specs.declared.Tag.TheVariants.{Aarq, Rlrq, PlainRequest, GlobalAction, DedicatedRequest, Unknown}
use Rattle.cosem.specs.declared.ServiceKind.{ServiceKind}
use Rattle.cosem.specs.declared.Reading.{Reading}
use Rattle.cosem.specs.declared.Reading.TheVariants.{Asks, GoesOn}
use Rattle.cosem.specs.Tags.{dedicated_tag, tag_in, is_release}
use Rattle.cosem.specs.Requests.{read_action, read_service, requested}
use Rattle.acse.specs.Aarq.{read_aarq}
use Rattle.counters.specs.Window.{in_window}
use Rattle.material.specs.Material.{Keys}
use Rattle.envelope.specs.declared.Shape.{Shape}
use Rattle.envelope.specs.Opening.{shape_of, Opened, fails, opens, opened}
use Rattle.protocol.specs.declared.Secrets.{Secrets}
use Rattle.protocol.specs.Clients.{ciphering, peer, counters, agreed_in, selective_in, blocks_in, lent_keys, dedicated_keys, permitted, bit_agreed, is_unknown}
use Rattle.protocol.specs.Decide.{held_by_p5, is_challenge, proves_itself, secrets_of}
use Rattle.call_tests.specs.declared.LineTest.{LineTest}
use Rattle.call_tests.specs.declared.LineTest.TheVariants.{LinkUpWithInformation, P5HoldsV, LinkDownWhileDown, DataWhileDown, UnknownTag, TagNotPermitted, BitNotAgreed, AarqNotAccepted, EnvelopeShape, EnvelopeTag, CounterWindow, MalformedApdu, NotTheChallenge, WrongProof}
use Rattle.call_tests.specs.declared.BodyTest.{BodyTest}
use Rattle.call_tests.specs.declared.BodyTest.TheVariants.{NameUnknown, ClassWrong, NotServed, ParameterShape, EntriesWrong, RangeWrong, AnswerTooLong, TransferEnded, NoTransfer, BlockNumber}
use Rattle.call_tests.specs.declared.CallTest.TheVariants.{Lent as OfLent, Sound as OfState, Frame as OfFrame, Line as OfLine, Body as OfBody}
use Rattle.call_tests.specs.Finding.{Finding}
use Rattle.call_tests.specs.Tests.{aarq_accepted, call_fails, first_failing, lent_tests}

-- a test of the line fails
abbrev pub fault : LineTest → Finding
fault t = Err (OfLine t)

-- Links.

unfoldable pub link_up_finds : Line → Client → (information : Bool) → Finding
link_up_finds l c information = cond information (fault LinkUpWithInformation) (cond (held_by_p5 c l) (fault P5HoldsV) (Ok tt))

unfoldable pub link_down_finds : Line → Client → Finding
link_down_finds l c = cond (peer c l).up (Ok tt) (fault LinkDownWhileDown)

-- A request for the body, by its result code. 13 is the range's or the entries' by the selector.

abbrev pub selector_wrong : Selection → BodyTest
selector_wrong all = EntriesWrong
selector_wrong (selected k v) = cond (eqb k range_selector) RangeWrong EntriesWrong

unfoldable pub code_test : (thirteen : BodyTest) → ℕ → BodyTest
code_test t c =
    cond (eqb c 4) NameUnknown
    (cond (eqb c 9) ClassWrong
    (cond (eqb c 3) NotServed
    (cond (eqb c 12) ParameterShape
    (cond (eqb c 13) t AnswerTooLong))))

abbrev pub result_finds : (thirteen : BodyTest) → Result → Finding
result_finds t (granted d) = Ok tt
result_finds t (begun x d) = Ok tt
result_finds t (denied c) = Err (OfBody (code_test t c))

abbrev pub service_finds : Request → Body → Meaning → Service → Finding
service_finds q b w (get attribute s) = result_finds (selector_wrong s) (attribute_read q attribute s b w)
service_finds q b w (action method v) = result_finds EntriesWrong (method_invoked q method v w)

unfoldable pub body_finds : Body → Request → Finding
body_finds b q = service_finds q b (meaning q.client q.name b.store.registers) q.service

-- A numbered request, by the transfer.

abbrev pub number_finds : (number : ℕ) → Transfer → Finding
number_finds n ended = Err (OfBody TransferEnded)
number_finds n idle = Err (OfBody NoTransfer)
number_finds n (running x k) = cond (eqb n k) (Ok tt) (Err (OfBody BlockNumber))

-- an APDU or a text that is read as a request of the client, or as a numbered one
abbrev pub asked_finds : Line → Body → Client → List ℕ → Option Reading → Finding
asked_finds l b c text None = fault MalformedApdu
asked_finds l b c text (Some (Asks q)) = body_finds b (requested c (selective_in c l) (blocks_in c l) text q)
asked_finds l b c text (Some (GoesOn i n)) = cond (blocks_in c l) (number_finds n b.transfer) (fault MalformedApdu)

-- The challenge.

abbrev pub answer_finds : Line → Secrets → CipherClient → (counter : ℕ) → (text : List ℕ) → Option Reading → Finding
answer_finds l a c counter text None = fault MalformedApdu
answer_finds l a c counter text (Some (Asks q)) =
    cond (is_challenge c text q) (cond (proves_itself l a c counter text q) (Ok tt) (fault WrongProof)) (fault NotTheChallenge)
-- never reached: an ACTION is no numbered request
answer_finds l a c counter text (Some (GoesOn i n)) = fault MalformedApdu

-- Envelopes.

abbrev pub opened_finds : (accepted : ℕ) → Opened → ((counter : ℕ) → (text : List ℕ) → Finding) → Finding
opened_finds accepted fails inside = fault EnvelopeTag
opened_finds accepted (opens counter text) inside = cond (in_window accepted counter) (inside counter text) (fault CounterWindow)

abbrev pub shape_finds : Option Shape → Finding → Finding
shape_finds None rest = fault EnvelopeShape
shape_finds (Some x) rest = rest

unfoldable pub envelope_finds : Line → CipherClient → Keys → (tag : ℕ) → List ℕ → ((counter : ℕ) → (text : List ℕ) → Finding) → Finding
envelope_finds l c k tag s inside =
    shape_finds (shape_of tag s) (opened_finds (counters c l).accepted (opened k (ciphering c l).peer.title tag s) inside)

-- of a client that ciphers; the tags of envelopes are not permitted to another
abbrev pub of_ciphering_finds : Client → (CipherClient → Finding) → Finding
of_ciphering_finds Verification r = fault TagNotPermitted
of_ciphering_finds (Ciphering c) r = r c

unfoldable pub challenge_finds : Line → Secrets → List ℕ → CipherClient → Finding
challenge_finds l a s c = envelope_finds l c (lent_keys a) 0xCB s (λ counter text. answer_finds l a c counter text (read_action text))

unfoldable pub request_finds : Line → Body → (ak : List ℕ) → ServiceKind → List ℕ → CipherClient → Finding
request_finds l b ak k s c =
    envelope_finds l c (dedicated_keys ak c l) (dedicated_tag k) s (λ counter text. asked_finds l b (Ciphering c) text (read_service k text))

-- APDUs.

unfoldable pub aarq_finds : Line → Secrets → Client → List ℕ → Finding
aarq_finds l a c s = cond (aarq_accepted l a c s (read_aarq s c (peer c l).title)) (Ok tt) (fault AarqNotAccepted)

unfoldable pub release_finds : List ℕ → Finding
release_finds s = cond (is_release s) (Ok tt) (fault MalformedApdu)

abbrev pub by_tag_finds : Line → Body → Secrets → Client → List ℕ → Tag → Finding
by_tag_finds l b a c s Aarq = aarq_finds l a c s
by_tag_finds l b a c s Rlrq = release_finds s
by_tag_finds l b a c s (PlainRequest k) = asked_finds l b c s (read_service k s)
by_tag_finds l b a c s GlobalAction = of_ciphering_finds c (challenge_finds l a s)
by_tag_finds l b a c s (DedicatedRequest k) = of_ciphering_finds c (request_finds l b a.ak k s)
-- never reached
by_tag_finds l b a c s Unknown = fault UnknownTag

unfoldable pub tested_finds : Line → Client → Tag → (passed : Finding) → Finding
tested_finds l c t passed =
    cond (is_unknown t) (fault UnknownTag)
    (cond (not (permitted c (peer c l).association t)) (fault TagNotPermitted)
    (cond (not (bit_agreed (agreed_in (peer c l).association) t)) (fault BitNotAgreed) passed))

unfoldable pub carried_finds : Line → Body → Secrets → Client → List ℕ → Finding
carried_finds l b a c s =
    cond (peer c l).up (tested_finds l c (tag_in s) (by_tag_finds l b a c s (tag_in s))) (fault DataWhileDown)

-- Frames.

abbrev pub heard_finds : Line → Body → Secrets → (received : List ℕ) → Frame → Finding
heard_finds l b a f (Unanswered t) = Err (OfFrame t)
heard_finds l b a f (Rejected t h) = Err (OfFrame t)
heard_finds l b a f (LinkUp c h information) = link_up_finds l c information
heard_finds l b a f (LinkDown c h) = link_down_finds l c
heard_finds l b a f (Apdu c h from to) = carried_finds l b a c (part from to f)

-- A call: what is lent and the state by their stretches of the list, then the frame.

abbrev pub or_else : Finding → Finding → Finding
or_else (Err t) y = Err t
or_else (Ok _) y = y

unfoldable pub lent_finds : Model → Lent → Finding
lent_finds m a = first_failing (call_fails m a) (map OfLent lent_tests)

unfoldable pub state_finds : Model → Lent → Finding
state_finds m a = first_failing (call_fails m a) (map OfState soundness_tests)

-- the state's, in its three parts

abbrev pub unsound : SoundnessTest → Finding
unsound t = Err (OfState t)

unfoldable pub rows_finds : Body → Finding
rows_finds b =
    cond (not (every (λ i r. valid_clock r.clock) 0 b.store.rows)) (unsound RowClocksValid)
    (cond (not (leb (length b.store.rows) max_rows)) (unsound RowCount)
    (cond (not (every (λ i r. eqb (length r.cells) (length b.store.columns)) 0 b.store.rows)) (unsound RowCells) (Ok tt)))

unfoldable pub body_state_finds : Body → Finding
body_state_finds b =
    cond (not (accepted_registers b.store.registers)) (unsound RegisterList)
    (cond (not (accepted_columns b.store.registers b.store.columns)) (unsound ColumnList)
    (cond (not (permitted_period b.period)) (unsound PeriodPermitted)
    (cond (not (valid_clock b.clock)) (unsound ClockValid) (rows_finds b))))

unfoldable pub line_state_finds : Line → Finding
line_state_finds l =
    cond (not (kinds_known l)) (unsound AssociationKind)
    (cond (not (links_stand l)) (unsound AssociationOnLink) (cond (not (services_offered l)) (unsound AgreedServices) (Ok tt)))

unfoldable pub transfer_finds : Line → Body → Finding
transfer_finds l b = cond (not (allowed l b.transfer && rows_allow b.store b.transfer)) (unsound TransferPossible) (Ok tt)

unfoldable pub road_finds : Model → Lent → Finding
road_finds m a =
    or_else (lent_finds m a)
    (or_else (state_finds m a) (heard_finds m.line m.body (secrets_of a) a.received (read_frame a.received)))
