-- `decide` and `seal` of document 01: the tests of a frame on a sound meter in its order, what goes out, and the line
-- afterwards ("The frame", "The association", "The envelope and its counters", "What goes out"; document 02, Q-4, numbered
-- requests). It sees the line and what is lent, and never the body: a request that passes every test is handed to it.
use Rattle.std.specs.Prelude.{Bool, true, false, cond, not, ◌&&◌, List, [], ◌++◌, ℕ, eqb, take, drop, Option, Some, None}
use Rattle.model.specs.declared.Client.{Client}
use Rattle.model.specs.declared.CipherClient.{CipherClient}
use Rattle.model.specs.declared.Client.TheVariants.{Verification, Ciphering}
use Rattle.model.specs.Names.{same_name}
use Rattle.model.specs.Services.{offered, common}
use Rattle.model.specs.State.{none, pending, associated, Line}
use Rattle.model.specs.Objects.{challenge_of, action_answer, denied, Inquiry, ask, go_on}
use Rattle.model.specs.Calls.{Lent, Wrap, Decision, Protocol}
use Rattle.wire.specs.Reading.{part}
use Rattle.hdlc.specs.declared.Head.{Head}
use Rattle.hdlc.specs.declared.Frame.{Frame}
use Rattle.hdlc.specs.declared.Frame.TheVariants.{Unanswered, Rejected, LinkUp, LinkDown, Apdu}
use Rattle.hdlc.specs.Layout.{ui, frame_of}
use Rattle.hdlc.specs.Tests.{reply_llc}
use Rattle.hdlc.specs.Reading.{read_frame}
use Rattle.cosem.specs.declared.Tag.{Tag}
use Rattle.cosem.specs.declared.Tag.TheVariants.{Aarq, Rlrq, PlainRequest, GlobalAction, DedicatedRequest, Unknown}
use Rattle.cosem.specs.declared.ServiceKind.{ServiceKind}
use Rattle.cosem.specs.declared.Wanted.{Wanted}
use Rattle.cosem.specs.declared.Wanted.TheVariants.{Read, ReadSelected, Invoke, InvokeWith}
use Rattle.cosem.specs.declared.Asked.{Asked}
use Rattle.cosem.specs.declared.Reading.{Reading}
use Rattle.cosem.specs.declared.Reading.TheVariants.{Asks, GoesOn}
use Rattle.cosem.specs.declared.Exception.TheVariants.{ServiceNotAllowed, ServiceUnknown}
use Rattle.cosem.specs.Tags.{dedicated_tag, answer_tag, tag_in, is_release, release_response, exception_bytes}
use Rattle.cosem.specs.Requests.{read_action, read_service, name_in, requested}
use Rattle.acse.specs.declared.Aarq.TheVariants.{Plain, Ciphered}
use Rattle.acse.specs.declared.Aarq.{Aarq as ReadAarq}
use Rattle.acse.specs.declared.InitiateRequest.{InitiateRequest}
use Rattle.acse.specs.Initiate.{read_request, initiate_response}
use Rattle.acse.specs.Aarq.{read_aarq}
use Rattle.acse.specs.Aare.{plain_aare, ciphered_aare_head}
use Rattle.counters.specs.Advance.{taken}
use Rattle.counters.specs.Window.{in_window, accepting}
use Rattle.envelope.specs.Opening.{Opened, fails, opens, opened}
use Rattle.envelope.specs.Challenge.{right_proof}
use Rattle.protocol.specs.declared.Secrets.{Secrets}
use Rattle.protocol.specs.Clients.{ciphering, peer, with_peer, linked, associates, counters, with_counters, held, agreed_in, key_in, client_challenge, meter_challenge, selective_in, blocks_in, lent_keys, dedicated_keys, permitted, bit_agreed, is_unknown}
use Rattle.protocol.specs.Rulings.{Text, none as no_test, frame, link_up_with_information, p5_holds_v, link_down_while_down, data_while_down, unknown_tag, tag_not_permitted, bit_not_agreed, envelope_unopened, outside_window, not_the_challenge, wrong_proof, plain, proof, Envelope, closed, nothing, ua, dm, reject, apdu, encloses, Ruling, says, asks, refused_aarq, refused_malformed, decision}

-- Links.

-- "93 with information, or from V while P5 holds V (an owner's flag): DM. Any other 93: UA (73), link up, the client's
-- association ended."
abbrev pub held_by_p5 : Client → Line → Bool
held_by_p5 Verification l = l.p5
held_by_p5 (Ciphering c) l = false

unfoldable pub link_up : Line → Client → Head → Bool → Ruling
link_up l c h information =
    cond information (says link_up_with_information (dm h) l)
    (cond (held_by_p5 c l) (says p5_holds_v (dm h) l)
    (says no_test (ua h) (with_peer c (linked true (peer c l)) l)))

-- "53: if up, UA, and this client's link and association end; else DM"
unfoldable pub link_down : Line → Client → Head → Ruling
link_down l c h =
    cond (peer c l).up (says no_test (ua h) (with_peer c (linked false (peer c l)) l)) (says link_down_while_down (dm h) l)

-- Associations.

-- "V is then associated": agreed are the services proposed and offered
unfoldable pub accepted_plain : Line → Head → (proposed : List ℕ) → Ruling
accepted_plain l h proposed =
    let agreed = common proposed (offered Verification) in
    says no_test (apdu h (plain_aare Verification l.title agreed)) (associates Verification (associated agreed []) l)

-- an envelope of the meter under GUK
abbrev pub under_guk : Line → Secrets → CipherClient → (tag number : ℕ) → Text → Envelope
under_guk l a c tag number text = record { client = c; key = a.guk; ak = a.ak; title = l.title; tag = tag; number = number; text = text }

-- "H pending": the client's counter becomes the last accepted, the meter's goes one on and is used in the envelope of tag 28
unfoldable pub accepted_ciphered : Line → Secrets → CipherClient → Head → (client key proposed : List ℕ) → (counter : ℕ) → Ruling
accepted_ciphered l a c h client key proposed counter =
    let agreed = common proposed (offered (Ciphering c)) in
    let next = taken (accepting (counters c l) counter) in
    says no_test
    (encloses h (ciphered_aare_head (Ciphering c) l.title a.challenge) (under_guk l a c 0x28 next.number (plain (initiate_response agreed))))
    (with_counters c next.counters (associates (Ciphering c) (pending agreed key client a.challenge) l))

-- by the opened initiate request of a client that ciphers
abbrev pub initiated : Line → Secrets → CipherClient → Head → (client text : List ℕ) → (counter : ℕ) → Option InitiateRequest → Ruling
initiated l a c h client text counter (Some x) = accepted_ciphered l a c h client (take 16 (drop x.key text)) (take 3 (drop x.services text)) counter
initiated l a c h client text counter None = refused_aarq (Ciphering c) h l

abbrev pub enclosed : Line → Secrets → CipherClient → Head → (client : List ℕ) → Opened → Ruling
enclosed l a c h client fails = refused_aarq (Ciphering c) h l
enclosed l a c h client (opens counter text) = initiated l a c h client text counter (read_request text)

-- a plain AARQ, and one with an envelope
abbrev pub plain_from : Line → Client → Head → (proposed : List ℕ) → Ruling
plain_from l Verification h proposed = accepted_plain l h proposed
plain_from l (Ciphering c) h proposed = refused_aarq (Ciphering c) h l

abbrev pub ciphered_from : Line → Secrets → Client → Head → (client envelope : List ℕ) → Ruling
ciphered_from l a Verification h client envelope = refused_aarq Verification h l
ciphered_from l a (Ciphering c) h client envelope =
    enclosed l a c h client (opened (lent_keys a) (ciphering c l).peer.title 0x21 envelope)

-- by the client's AARQ, which is plain from V alone and ciphered from a client that ciphers alone
abbrev pub associating : Line → Secrets → Client → Head → List ℕ → Option ReadAarq → Ruling
associating l a c h s (Some (Plain p)) = plain_from l c h (take 3 (drop p s))
associating l a c h s (Some (Ciphered d e)) = ciphered_from l a c h (take 8 (drop d s)) (drop e s)
associating l a c h s None = refused_aarq c h l

-- "RLRQ is 62 03 80 01 00, answered 63 03 80 01 00, plain, and the state is none"
unfoldable pub released : Line → Client → Head → List ℕ → Ruling
released l c h s =
    cond (is_release s) (says no_test (apdu h release_response) (associates c none l)) (refused_malformed h l)

-- Requests.

-- what goes around the body's answer: addresses exchanged, the client, the tag received, AK
abbrev pub wrap : (ak : List ℕ) → Client → Head → ℕ → Wrap
wrap ak c h tag = record { destination = h.source; source = h.destination; client = c; tag = tag; ak = ak }

-- the request of a client, with what was agreed
abbrev pub request_of : Line → Client → List ℕ → Asked → Inquiry
request_of l c s q = ask (requested c (selective_in c l) (blocks_in c l) s q)

-- a numbered request; "without the bit it stays malformed"
abbrev pub next_asked : Line → Client → (malformed wellFormed : Ruling) → Ruling
next_asked l c malformed wellFormed = cond (blocks_in c l) wellFormed malformed

-- a plain request
abbrev pub asked : Line → Secrets → Client → Head → List ℕ → Option Reading → Ruling
asked l a c h s None = refused_malformed h l
asked l a c h s (Some (Asks q)) = asks (request_of l c s q) (wrap a.ak Verification h 0xC0) l
-- V is not offered the bit, so that on a sound line its numbered request is malformed
asked l a c h s (Some (GoesOn i n)) = next_asked l c (refused_malformed h l) (asks (go_on i n) (wrap a.ak Verification h 0xC0) l)

-- the line after an envelope's counter has become the last accepted, and after the meter's own has gone on besides
abbrev pub accepted : CipherClient → ℕ → Line → Line
accepted c counter l = with_counters c (accepting (counters c l) counter) l

abbrev pub advanced : CipherClient → Line → Line
advanced c l = with_counters c (taken (counters c l)).counters l

-- an opened request: its answer will take the meter's next counter, granted or denied
abbrev pub asked_inside : Line → Secrets → CipherClient → Head → ServiceKind → (counter : ℕ) → List ℕ → Option Reading → Ruling
asked_inside l a c h k counter text None = refused_malformed h (accepted c counter l)
asked_inside l a c h k counter text (Some (Asks q)) =
    asks (request_of l (Ciphering c) text q) (wrap a.ak (Ciphering c) h (dedicated_tag k)) (advanced c (accepted c counter l))
asked_inside l a c h k counter text (Some (GoesOn i n)) =
    next_asked l (Ciphering c) (refused_malformed h (accepted c counter l))
    (asks (go_on i n) (wrap a.ak (Ciphering c) h (dedicated_tag k)) (advanced c (accepted c counter l)))

-- The challenge.

-- "ACTION (CB) on class 15, 0.0.40.0.4.255, method 1"
abbrev pub on_first_method : Wanted → Bool
on_first_method (Read a) = false
on_first_method (ReadSelected a k at) = false
on_first_method (Invoke k) = eqb k 1
on_first_method (InvokeWith k at) = eqb k 1

unfoldable pub is_challenge : CipherClient → List ℕ → Asked → Bool
is_challenge c text q = eqb q.class 15 && same_name (challenge_of c) (name_in text) && on_first_method q.wanted

-- the parameter; none is no proof
abbrev pub proof_in : List ℕ → Wanted → List ℕ
proof_in text (Read a) = []
proof_in text (ReadSelected a k at) = []
proof_in text (Invoke k) = []
proof_in text (InvokeWith k at) = drop at text

-- "the meter answers likewise (CF) over H's challenge and H is associated": the proof takes a counter before its envelope
unfoldable pub proved : Line → Secrets → CipherClient → Head → (invoke counter : ℕ) → Ruling
proved l a c h invoke counter =
    let first = taken (accepting (counters c l) counter) in
    let second = taken first.counters in
    says no_test
    (encloses h [] (under_guk l a c 0xCF second.number (proof invoke first.number (client_challenge (held c l)))))
    (with_counters c second.counters (associates (Ciphering c) (associated (agreed_in (held c l)) (key_in (held c l))) l))

-- "a wrong proof, or any other parameter or none, answers 250 and the state is none"
unfoldable pub disproved : Line → Secrets → CipherClient → Head → (invoke counter : ℕ) → Ruling
disproved l a c h invoke counter =
    let first = taken (accepting (counters c l) counter) in
    says wrong_proof
    (encloses h [] (under_guk l a c 0xCF first.number (plain (action_answer invoke (denied 250)))))
    (with_counters c first.counters (associates (Ciphering c) none l))

-- the client's proof is right
unfoldable pub proves_itself : Line → Secrets → CipherClient → (counter : ℕ) → List ℕ → Asked → Bool
proves_itself l a c counter text q =
    right_proof (lent_keys a) (ciphering c l).peer.title (meter_challenge (held c l)) (counters c l).accepted counter
    (proof_in text q.wanted)

unfoldable pub challenged : Line → Secrets → CipherClient → Head → (counter : ℕ) → List ℕ → Asked → Ruling
challenged l a c h counter text q =
    cond (not (is_challenge c text q)) (says not_the_challenge (apdu h (exception_bytes ServiceNotAllowed)) (accepted c counter l))
    (cond (proves_itself l a c counter text q) (proved l a c h q.invoke counter)
    (disproved l a c h q.invoke counter))

abbrev pub answered_challenge : Line → Secrets → CipherClient → Head → (counter : ℕ) → List ℕ → Option Reading → Ruling
answered_challenge l a c h counter text None = refused_malformed h (accepted c counter l)
answered_challenge l a c h counter text (Some (Asks q)) = challenged l a c h counter text q
-- never reached: an ACTION is no numbered request
answered_challenge l a c h counter text (Some (GoesOn i n)) = refused_malformed h (accepted c counter l)

-- Envelopes of a client that ciphers.

-- "then refusals 6 and 7": the counter is looked at once the envelope has opened; outside its window the association is dropped
abbrev pub admitted : Line → CipherClient → Opened → ((counter : ℕ) → List ℕ → Ruling) → Ruling
admitted l c fails inside = says envelope_unopened nothing l
admitted l c (opens counter text) inside =
    cond (in_window (counters c l).accepted counter) (inside counter text) (says outside_window nothing (associates (Ciphering c) none l))

-- CB, under GUK
unfoldable pub challenge_enclosed : Line → Secrets → CipherClient → Head → List ℕ → Ruling
challenge_enclosed l a c h s =
    admitted l c (opened (lent_keys a) (ciphering c l).peer.title 0xCB s) (λ counter text. answered_challenge l a c h counter text (read_action text))

-- D0 and D3, under the dedicated key
unfoldable pub request_enclosed : Line → Secrets → CipherClient → Head → ServiceKind → List ℕ → Ruling
request_enclosed l a c h k s =
    admitted l c (opened (dedicated_keys a.ak c l) (ciphering c l).peer.title (dedicated_tag k) s)
    (λ counter text. asked_inside l a c h k counter text (read_service k text))

-- By the tag of the APDU.

-- of a client that ciphers; the tags of envelopes are not permitted to another
abbrev pub of_ciphering : Line → Client → Head → (CipherClient → Ruling) → Ruling
of_ciphering l Verification h r = says tag_not_permitted (apdu h (exception_bytes ServiceNotAllowed)) l
of_ciphering l (Ciphering c) h r = r c

abbrev pub by_tag : Line → Secrets → Client → Head → List ℕ → Tag → Ruling
by_tag l a c h s Aarq = associating l a c h s (read_aarq s c (peer c l).title)
by_tag l a c h s Rlrq = released l c h s
by_tag l a c h s (PlainRequest k) = asked l a c h s (read_service k s)
by_tag l a c h s GlobalAction = of_ciphering l c h (λ d. challenge_enclosed l a d h s)
by_tag l a c h s (DedicatedRequest k) = of_ciphering l c h (λ d. request_enclosed l a d h k s)
-- never reached, as an unknown tag is refused before. Whatever stood here, or for a client that may not send the tag, every APDU
-- would be ruled the same (`Unreached` of specs/Outcomes)
by_tag l a c h s Unknown = says unknown_tag (apdu h (exception_bytes ServiceUnknown)) l

-- "Tests in order: a tag other than .. D8 02 02; a tag not permitted here, or GET or ACTION without its agreed bit, D8 01 01"; then
-- what an APDU comes to whose tag passes them
abbrev pub tested : Line → Client → Head → Tag → (passed : Ruling) → Ruling
tested l c h t passed =
    cond (is_unknown t) (says unknown_tag (apdu h (exception_bytes ServiceUnknown)) l)
    (cond (not (permitted c (peer c l).association t)) (says tag_not_permitted (apdu h (exception_bytes ServiceNotAllowed)) l)
    (cond (not (bit_agreed (agreed_in (peer c l).association) t)) (says bit_not_agreed (apdu h (exception_bytes ServiceNotAllowed)) l)
    passed))

unfoldable pub conversed : Line → Secrets → Client → Head → List ℕ → Tag → Ruling
conversed l a c h s t = tested l c h t (by_tag l a c h s t)

-- By the frame.

-- "13 while down: DM"
unfoldable pub carried : Line → Secrets → Client → Head → List ℕ → Ruling
carried l a c h s = cond (peer c l).up (conversed l a c h s (tag_in s)) (says data_while_down (dm h) l)

abbrev pub heard : Line → Secrets → (received : List ℕ) → Frame → Ruling
heard l a f (Unanswered t) = says (frame t) nothing l
heard l a f (Rejected t h) = says (frame t) (reject h t) l
heard l a f (LinkUp c h information) = link_up l c h information
heard l a f (LinkDown c h) = link_down l c h
heard l a f (Apdu c h from to) = carried l a c h (part from to f)

-- what is lent with a frame
abbrev pub secrets_of : Lent → Secrets
secrets_of a = record { guk = a.guk; ak = a.ak; challenge = a.challenge }

-- what a frame comes to
unfoldable pub ruled : Line → Lent → Ruling
ruled l a = heard l (secrets_of a) a.received (read_frame a.received)

unfoldable pub decide : Line → Lent → Decision
decide l a = decision (ruled l a)

-- What goes out around the body's answer.

-- the envelope around an answer, under the counter that was taken
abbrev pub answer_envelope : Line → (ak : List ℕ) → CipherClient → (tag : ℕ) → List ℕ → Envelope
answer_envelope l ak c tag text =
    record { client = c; key = key_in (held c l); ak = ak; title = l.title; tag = answer_tag tag; number = (counters c l).sent; text = plain text }

-- to V plain; to a client that ciphers in an envelope
abbrev pub around_for : Line → Wrap → Client → List ℕ → List ℕ
around_for l w Verification text = text
around_for l w (Ciphering c) text = closed (answer_envelope l w.ak c w.tag text)

unfoldable pub around : Line → Wrap → List ℕ → List ℕ
around l w text = around_for l w w.client text

unfoldable pub seal : Line → Wrap → List ℕ → List ℕ
seal l w text = frame_of w.destination w.source ui (reply_llc ++ around l w text)

abbrev pub p2 : Protocol
p2 = record { decide = decide; seal = seal }
