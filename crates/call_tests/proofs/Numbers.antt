-- The first failing test has the number that the call answers.
use mathlib.Core.Path.{◌≡◌, refl, sym, ap, ◌∙◌}
use mathlib.Core.Bool.{Bool, true, false, cond, not, ◌&&◌}
use mathlib.Core.List.{List, [], ◌∷◌, map}
use Prim.Native.Nat.{ℕ, suc}
use lib.Dec.{eqb, ltb}
use lib.ListN.{length, take, drop}
use Rattle.std.specs.Prelude.{Option, Some, None}
use Rattle.wire.specs.Reading.{part}
use Rattle.model.specs.declared.Client.{Client}
use Rattle.model.specs.declared.Client.TheVariants.{Verification, Ciphering}
use Rattle.model.specs.declared.CipherClient.{CipherClient}
use Rattle.model.specs.declared.SoundnessTest.{SoundnessTest}
use Rattle.model.specs.Limits.{longest_sent, reply_room}
use Rattle.model.specs.Names.{every}
use Rattle.model.specs.State.{Transfer, idle, running, ended, none, Line, Body, Model}
use Rattle.model.specs.Soundness.{passes, soundness_tests, sound}
use Rattle.model.specs.Objects.{Request, ask, go_on, Result, granted, begun, denied, refusal_of as result_refusal, Meaning, meaning, Service, get, action, attribute_read, method_invoked, answered, next_turn, refused_turn, continued, turned}
use Rattle.model.specs.Calls.{Lent, Outcome, lent_refusal, Wrap, refused, decided, settles, act, step}
use Rattle.hdlc.specs.declared.Head.{Head}
use Rattle.hdlc.specs.declared.Frame.{Frame}
use Rattle.hdlc.specs.declared.Frame.TheVariants.{Unanswered, Rejected, LinkUp, LinkDown, Apdu}
use Rattle.hdlc.specs.Reading.{read_frame}
use Rattle.cosem.specs.declared.Tag.{Tag}
use Rattle.cosem.specs.declared.Tag.TheVariants.{Aarq, Rlrq, PlainRequest, GlobalAction, DedicatedRequest, Unknown}
use Rattle.cosem.specs.declared.ServiceKind.{ServiceKind}
use Rattle.cosem.specs.declared.Reading.{Reading}
use Rattle.cosem.specs.declared.Reading.TheVariants.{Asks, GoesOn}
use Rattle.cosem.specs.declared.Exception.TheVariants.{ServiceNotAllowed, ServiceUnknown}
use Rattle.cosem.specs.Tags.{dedicated_tag, tag_in, is_release, release_response, exception_bytes}
use Rattle.cosem.specs.Requests.{read_action, read_service, requested}
use Rattle.acse.specs.declared.Aarq.{Aarq as ReadAarq}
use Rattle.acse.specs.declared.Aarq.TheVariants.{Plain, Ciphered}
use Rattle.acse.specs.declared.InitiateRequest.{InitiateRequest}
use Rattle.acse.specs.Initiate.{read_request}
use Rattle.acse.specs.Aarq.{read_aarq}
use Rattle.counters.specs.Window.{in_window}
use Rattle.material.specs.Material.{Keys}
use Rattle.envelope.specs.declared.Shape.{Shape}
use Rattle.envelope.specs.Opening.{shape_of, opened_by, Opened, fails, opens, opened}
use Rattle.protocol.specs.declared.Secrets.{Secrets}
use Rattle.protocol.specs.Clients.{associates, ciphering, peer, with_peer, linked, counters, agreed_in, blocks_in, lent_keys, dedicated_keys, permitted, bit_agreed, is_unknown}
use Rattle.protocol.specs.Rulings.{Ruling, says, asks, none as no_test, ua, dm, apdu, nothing, outside_window, p5_holds_v, link_down_while_down, data_while_down, unknown_tag, tag_not_permitted, bit_not_agreed, not_the_challenge, refused_malformed, decision}
use Rattle.protocol.specs.Decide.{held_by_p5, link_up, link_down, accepted_plain, accepted_ciphered, initiated, enclosed, associating, released, asked, accepted, asked_inside, is_challenge, proves_itself, proved, disproved, challenged, answered_challenge, admitted, challenge_enclosed, request_enclosed, of_ciphering, by_tag, tested, conversed, carried, heard, secrets_of, ruled, decide, p2}
use Rattle.call_tests.specs.declared.LentTest.TheVariants.{ReplyRoom, GukLength, AkLength, ChallengeLength}
use Rattle.call_tests.specs.declared.LineTest.TheVariants.{P5HoldsV, LinkDownWhileDown, DataWhileDown, UnknownTag, TagNotPermitted, BitNotAgreed, AarqNotAccepted, CounterWindow, MalformedApdu, NotTheChallenge, WrongProof}
use Rattle.call_tests.specs.declared.BodyTest.{BodyTest}
use Rattle.call_tests.specs.declared.BodyTest.TheVariants.{EntriesWrong, BlockNumber}
use Rattle.call_tests.specs.declared.CallTest.TheVariants.{Lent as OfLent, Sound as OfState, Body as OfBody}
use Rattle.call_tests.specs.Finding.{Finding}
use Rattle.std.specs.Prelude.{Ok, Err}
use Rattle.call_tests.specs.Tests.{initiate_accepted, on_opened, aarq_accepted, call_fails, first_failing}
use Rattle.call_tests.specs.Lines.{number_found}
use Rattle.call_tests.specs.Claims.{refusal_in, RightNumber}
use Rattle.call_tests.specs.Road.{fault, link_up_finds, link_down_finds, selector_wrong, result_finds, service_finds, body_finds, number_finds, asked_finds, answer_finds, opened_finds, shape_finds, envelope_finds, of_ciphering_finds, challenge_finds, request_finds, aarq_finds, release_finds, by_tag_finds, tested_finds, carried_finds, heard_finds, or_else, lent_finds, state_finds, road_finds}
use Rattle.call_tests.proofs.Road.{found_road}

module _ (m : Model) (a : Secrets) (h : Head) where
  -- the number that a ruling comes to on this meter
  abbrev N : Ruling → ℕ
  N r = (decided p2 (decision r) m).refusal

  abbrev l : Line
  l = m.line

  abbrev b : Body
  b = m.body

  -- Requests for the body.

  result_number : (t : BodyTest) (r : Result) → result_refusal r ≡ number_found (result_finds t r)
  result_number t (granted d) = refl
  result_number t (begun x d) = refl
  result_number t (denied c) = refl

  service_number : (q : Request) (w : Meaning) (v : Service) → (answered q b w v).refusal ≡ number_found (service_finds q b w v)
  service_number q w (get attribute s) = result_number (selector_wrong s) (attribute_read q attribute s b w)
  service_number q w (action method v) = result_number EntriesWrong (method_invoked q method v w)

  body_number : (q : Request) → (turned (ask q) b).refusal ≡ number_found (body_finds b q)
  unfolding turned body_finds
  body_number q = service_number q (meaning q.client q.name b.store.registers) q.service

  number_number : (i n : ℕ) (t : Transfer) → (continued i n b t).refusal ≡ number_found (number_finds n t)
  number_number i n ended = refl
  number_number i n idle = refl
  number_number i n (running x k) = go (eqb n k)
    where
      go : (y : Bool) → (cond y (next_turn i x k b) (refused_turn i n 19 b)).refusal ≡ number_found (cond y (Ok tt) (Err (OfBody BlockNumber)))
      go true = refl
      go false = refl

  -- a numbered request, by its bit
  bit_number : (i n : ℕ) (w : Wrap) (before after : Line) (y : Bool)
      → N (cond y (asks (go_on i n) w after) (refused_malformed h before)) ≡ number_found (cond y (number_finds n b.transfer) (fault MalformedApdu))
  unfolding turned
  bit_number i n w before after true = number_number i n b.transfer
  bit_number i n w before after false = refl

  asked_number : (c : Client) (s : List ℕ) (r : Option Reading) → N (asked l a c h s r) ≡ number_found (asked_finds l b c s r)
  asked_number c s None = refl
  asked_number c s (Some (Asks q)) = body_number (requested c _ _ s q)
  asked_number c s (Some (GoesOn i n)) = bit_number i n _ _ _ (blocks_in c l)

  inside_number : (c : CipherClient) (k : ServiceKind) (n : ℕ) (text : List ℕ) (r : Option Reading) → N (asked_inside l a c h k n text r) ≡ number_found (asked_finds l b (Ciphering c) text r)
  inside_number c k n text None = refl
  inside_number c k n text (Some (Asks q)) = body_number (requested (Ciphering c) _ _ text q)
  inside_number c k n text (Some (GoesOn i j)) = bit_number i j _ _ _ (blocks_in (Ciphering c) l)

  -- The challenge.

  answer_number : (c : CipherClient) (n : ℕ) (text : List ℕ) (r : Option Reading) → N (answered_challenge l a c h n text r) ≡ number_found (answer_finds l a c n text r)
  unfolding challenged proved disproved
  answer_number c n text None = refl
  answer_number c n text (Some (GoesOn i j)) = refl
  answer_number c n text (Some (Asks q)) = go (is_challenge c text q) (proves_itself l a c n text q)
    where
      go : (x y : Bool)
          → N (cond (not x) (says not_the_challenge (apdu h (exception_bytes ServiceNotAllowed)) (accepted c n l)) (cond y (proved l a c h q.invoke n) (disproved l a c h q.invoke n)))
          ≡ number_found (cond x (cond y (Ok tt) (fault WrongProof)) (fault NotTheChallenge))
      go true true = refl
      go true false = refl
      go false y = refl

  -- Envelopes.

  admitted_number : (c : CipherClient) (k : Keys) (tag : ℕ) (s : List ℕ) (rules : (counter : ℕ) → List ℕ → Ruling) (inside : (counter : ℕ) → (text : List ℕ) → Finding)
      → ((n : ℕ) (text : List ℕ) → N (rules n text) ≡ number_found (inside n text))
      → N (admitted l c (opened k (ciphering c l).peer.title tag s) rules) ≡ number_found (envelope_finds l c k tag s inside)
  unfolding envelope_finds opened opened_by
  admitted_number c k tag s rules inside same = go (shape_of tag s)
    where
      title : List ℕ
      title = (ciphering c l).peer.title

      window : (w : Bool) (n : ℕ) (text : List ℕ) → N (cond w (rules n text) (says outside_window nothing (associates (Ciphering c) none l))) ≡ number_found (cond w (inside n text) (fault CounterWindow))
      window true n text = same n text
      window false n text = refl

      opening : (o : Opened) → N (admitted l c o rules) ≡ number_found (opened_finds (counters c l).accepted o inside)
      opening fails = refl
      opening (opens n text) = window (in_window (counters c l).accepted n) n text

      go : (x : Option Shape) → N (admitted l c (opened_by k title tag s x) rules) ≡ number_found (shape_finds x (opened_finds (counters c l).accepted (opened_by k title tag s x) inside))
      go None = refl
      go (Some x) = opening (opened_by k title tag s (Some x))

  challenge_number : (s : List ℕ) (c : CipherClient) → N (challenge_enclosed l a c h s) ≡ number_found (challenge_finds l a s c)
  unfolding challenge_enclosed challenge_finds
  challenge_number s c = admitted_number c (lent_keys a) 0xCB s _ _ (λ n text. answer_number c n text (read_action text))

  request_number : (k : ServiceKind) (s : List ℕ) (c : CipherClient) → N (request_enclosed l a c h k s) ≡ number_found (request_finds l b a.ak k s c)
  unfolding request_enclosed request_finds
  request_number k s c = admitted_number c (dedicated_keys a.ak c l) (dedicated_tag k) s _ _ (λ n text. inside_number c k n text (read_service k text))

  ciphering_number : (c : Client) (r : CipherClient → Ruling) (x : CipherClient → Finding) → ((d : CipherClient) → N (r d) ≡ number_found (x d)) → N (of_ciphering l c h r) ≡ number_found (of_ciphering_finds c x)
  ciphering_number Verification r x same = refl
  ciphering_number (Ciphering d) r x same = same d

  -- APDUs.

  abbrev aarq_finding : Bool → Finding
  aarq_finding x = cond x (Ok tt) (fault AarqNotAccepted)

  initiated_number : (c : CipherClient) (client text : List ℕ) (n : ℕ) (r : Option InitiateRequest) → N (initiated l a c h client text n r) ≡ number_found (aarq_finding (initiate_accepted r))
  unfolding accepted_ciphered
  initiated_number c client text n (Some x) = refl
  initiated_number c client text n None = refl

  enclosed_number : (c : CipherClient) (client : List ℕ) (o : Opened) → N (enclosed l a c h client o) ≡ number_found (aarq_finding (on_opened o (λ n text. initiate_accepted (read_request text))))
  enclosed_number c client fails = refl
  enclosed_number c client (opens n text) = initiated_number c client text n (read_request text)

  associating_number : (c : Client) (s : List ℕ) (r : Option ReadAarq) → N (associating l a c h s r) ≡ number_found (aarq_finding (aarq_accepted l a c s r))
  unfolding accepted_plain
  associating_number Verification s (Some (Plain p)) = refl
  associating_number Verification s (Some (Ciphered d e)) = refl
  associating_number Verification s None = refl
  associating_number (Ciphering c) s (Some (Plain p)) = refl
  associating_number (Ciphering c) s (Some (Ciphered d e)) = enclosed_number c (take 8 (drop d s)) (opened (lent_keys a) (ciphering c l).peer.title 0x21 (drop e s))
  associating_number (Ciphering c) s None = refl

  aarq_number : (c : Client) (s : List ℕ) → N (associating l a c h s (read_aarq s c (peer c l).title)) ≡ number_found (aarq_finds l a c s)
  unfolding aarq_finds
  aarq_number c s = associating_number c s (read_aarq s c (peer c l).title)

  release_number : (c : Client) (s : List ℕ) → N (released l c h s) ≡ number_found (release_finds s)
  unfolding released release_finds
  release_number c s = go (is_release s)
    where
      go : (x : Bool) → N (cond x (says no_test (apdu h release_response) (associates c none l)) (refused_malformed h l)) ≡ number_found (cond x (Ok tt) (fault MalformedApdu))
      go true = refl
      go false = refl

  tag_number : (c : Client) (s : List ℕ) (t : Tag) → N (by_tag l a c h s t) ≡ number_found (by_tag_finds l b a c s t)
  tag_number c s Aarq = aarq_number c s
  tag_number c s Rlrq = release_number c s
  tag_number c s (PlainRequest k) = asked_number c s (read_service k s)
  tag_number c s GlobalAction = ciphering_number c (λ d. challenge_enclosed l a d h s) (challenge_finds l a s) (challenge_number s)
  tag_number c s (DedicatedRequest k) = ciphering_number c (λ d. request_enclosed l a d h k s) (request_finds l b a.ak k s) (request_number k s)
  tag_number c s Unknown = refl

  tested_number : (c : Client) (t : Tag) (r : Ruling) (x : Finding) → N r ≡ number_found x → N (tested l c h t r) ≡ number_found (tested_finds l c t x)
  unfolding tested_finds
  tested_number c t r x same = go (is_unknown t) (permitted c (peer c l).association t) (bit_agreed (agreed_in (peer c l).association) t)
    where
      go : (u p g : Bool)
          → N (cond u (says unknown_tag (apdu h (exception_bytes ServiceUnknown)) l) (cond (not p) (says tag_not_permitted (apdu h (exception_bytes ServiceNotAllowed)) l) (cond (not g) (says bit_not_agreed (apdu h (exception_bytes ServiceNotAllowed)) l) r)))
          ≡ number_found (cond u (fault UnknownTag) (cond (not p) (fault TagNotPermitted) (cond (not g) (fault BitNotAgreed) x)))
      go true p g = refl
      go false false g = refl
      go false true false = refl
      go false true true = same

  carried_number : (c : Client) (s : List ℕ) → N (carried l a c h s) ≡ number_found (carried_finds l b a c s)
  unfolding carried conversed carried_finds
  carried_number c s = go (peer c l).up
    where
      go : (u : Bool) → N (cond u (tested l c h (tag_in s) (by_tag l a c h s (tag_in s))) (says data_while_down (dm h) l)) ≡ number_found (cond u (tested_finds l c (tag_in s) (by_tag_finds l b a c s (tag_in s))) (fault DataWhileDown))
      go true = tested_number c (tag_in s) (by_tag l a c h s (tag_in s)) (by_tag_finds l b a c s (tag_in s)) (tag_number c s (tag_in s))
      go false = refl

  -- Links.

  up_number : (c : Client) (information : Bool) → N (link_up l c h information) ≡ number_found (link_up_finds l c information)
  unfolding link_up link_up_finds
  up_number c true = refl
  up_number c false = go (held_by_p5 c l)
    where
      go : (x : Bool) → N (cond x (says p5_holds_v (dm h) l) (says no_test (ua h) (with_peer c (linked true (peer c l)) l))) ≡ number_found (cond x (fault P5HoldsV) (Ok tt))
      go true = refl
      go false = refl

  down_number : (c : Client) → N (link_down l c h) ≡ number_found (link_down_finds l c)
  unfolding link_down link_down_finds
  down_number c = go (peer c l).up
    where
      go : (x : Bool) → N (cond x (says no_test (ua h) (with_peer c (linked false (peer c l)) l)) (says link_down_while_down (dm h) l)) ≡ number_found (cond x (Ok tt) (fault LinkDownWhileDown))
      go true = refl
      go false = refl

-- Frames.

heard_number : (m : Model) (a : Secrets) (f : List ℕ) (x : Frame) → (decided p2 (decision (heard m.line a f x)) m).refusal ≡ number_found (heard_finds m.line m.body a f x)
heard_number m a f (Unanswered t) = refl
heard_number m a f (Rejected t h) = refl
heard_number m a f (LinkUp c h information) = up_number m a h c information
heard_number m a f (LinkDown c h) = down_number m a h c
heard_number m a f (Apdu c h from to) = carried_number m a h c (part from to f)

-- Calls.

module _ (m : Model) (a : Lent) where
  state_number : (ts : List SoundnessTest) (k : ℕ) (o : Outcome) (x : Finding) → o.refusal ≡ number_found x
      → (cond (every (λ i t. passes t m) k ts) o (refused 3 m)).refusal ≡ number_found (or_else (first_failing (call_fails m a) (map OfState ts)) x)
  unfolding first_failing
  state_number [] k o x same = same
  state_number (t ∷ ts) k o x same = go (passes t m) (state_number ts (suc k) o x same)
    where
      go : (p : Bool) → (cond (every (λ i u. passes u m) (suc k) ts) o (refused 3 m)).refusal ≡ number_found (or_else (first_failing (call_fails m a) (map OfState ts)) x)
          → (cond (p && every (λ i u. passes u m) (suc k) ts) o (refused 3 m)).refusal ≡ number_found (or_else (cond (not p) (Err (OfState t)) (first_failing (call_fails m a) (map OfState ts))) x)
      go true e = e
      go false e = refl

  lent_number_lem : (o : Outcome) (x : Finding) → o.refusal ≡ number_found x
      → (cond (eqb (lent_refusal a) 0) o (refused (lent_refusal a) m)).refusal ≡ number_found (or_else (lent_finds m a) x)
  unfolding lent_refusal lent_finds first_failing
  lent_number_lem o x same = go (ltb a.room (reply_room longest_sent)) (eqb (length a.guk) 16) (eqb (length a.ak) 16) (eqb (length a.challenge) 8)
    where
      go : (r g k c : Bool)
          → (cond (eqb (cond r 1 (cond (not g) 2 (cond (not k) 2 (cond (not c) 2 0)))) 0) o (refused (cond r 1 (cond (not g) 2 (cond (not k) 2 (cond (not c) 2 0)))) m)).refusal
          ≡ number_found (or_else (cond r (Err (OfLent ReplyRoom)) (cond (not g) (Err (OfLent GukLength)) (cond (not k) (Err (OfLent AkLength)) (cond (not c) (Err (OfLent ChallengeLength)) (Ok tt))))) x)
      go true g k c = refl
      go false false k c = refl
      go false true false c = refl
      go false true true false = refl
      go false true true true = same

  road_number : refusal_in m a ≡ number_found (road_finds m a)
  unfolding step act sound road_finds state_finds decide ruled
  road_number =
      lent_number_lem _ _
      (state_number soundness_tests 0 (settles (decided p2 (decision (heard m.line (secrets_of a) a.received (read_frame a.received))) m))
      (heard_finds m.line m.body (secrets_of a) a.received (read_frame a.received))
      (heard_number m (secrets_of a) a.received (read_frame a.received)))

pub right_number : RightNumber
right_number m a = road_number m a ∙ ap number_found (sym (found_road m a))
