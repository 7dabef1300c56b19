-- What a frame comes to on a line: one walk through the rulings, from `heard` to its leaves, with what is known at each. The
-- statements about all frames go by cases of `Leaf`: a sound line stays sound (proofs/Lines), the rows of document 01's table
-- (proofs/Outcomes), what goes out is a frame (proofs/Framed). A branch more in specs/Decide is one leaf here and one clause in
-- each of them. The rows of specs/Outcomes are a data type of their own, since they speak of whole calls, in the table's words.
use mathlib.Core.Path.{◌≡◌, refl, sym, ap, subst, ◌∙◌}
use mathlib.Core.Bool.{Bool, true, false, cond, not, false≢true}
use mathlib.Core.List.{List}
use Rattle.std.specs.Prelude.{Some, None}
use Prim.Native.Nat.{ℕ, ◌-◌, ◌≤◌, ◌<◌}
use native.Mathlib.Omega.{arith}
use lib.Dec.{eqb}
use lib.ListN.{take, drop, length}
use borrow.Author.Tests.{eqb-true, not-true, not-false}
use Rattle.std.specs.Prelude.{Option, Some, None}
use Rattle.model.specs.declared.Client.{Client}
use Rattle.model.specs.declared.CipherClient.{CipherClient}
use Rattle.model.specs.declared.Client.TheVariants.{Verification, Ciphering}
use Rattle.model.specs.declared.CipherClient.TheVariants.{Han}
use Rattle.model.specs.State.{Association, none, Line}
use Rattle.model.specs.Objects.{go_on}
use Rattle.model.specs.Calls.{Lent}
use Rattle.model.proofs.ListLaws.{by_test}
use Rattle.hdlc.specs.declared.Head.{Head}
use Rattle.hdlc.specs.declared.Frame.{Frame}
use Rattle.hdlc.specs.declared.Frame.TheVariants.{Unanswered, Rejected, LinkUp, LinkDown, Apdu}
use Rattle.hdlc.specs.declared.FrameTest.{FrameTest}
use Rattle.hdlc.specs.Layout.{ui, byte}
use Rattle.hdlc.specs.Addresses.{address_of, sender_of}
use Rattle.hdlc.specs.Tests.{FirstOf, meter_side, frame_tests, number_of}
use Rattle.hdlc.specs.Reading.{read_frame}
use Rattle.hdlc.proofs.ReadingLaws.{AcceptedFrame, Told, read_told}
use Rattle.cosem.specs.declared.Tag.{Tag}
use Rattle.cosem.specs.declared.Tag.TheVariants.{Aarq, Rlrq, PlainRequest, GlobalAction, DedicatedRequest}
use Rattle.cosem.specs.declared.ServiceKind.{ServiceKind}
use Rattle.cosem.specs.declared.ServiceKind.TheVariants.{Get, Action}
use Rattle.cosem.specs.declared.Asked.{Asked}
use Rattle.cosem.specs.declared.Exception.{Exception}
use Rattle.cosem.specs.declared.Exception.TheVariants.{ServiceNotAllowed, ServiceUnknown}
use Rattle.cosem.specs.declared.Reading.{Reading}
use Rattle.cosem.specs.declared.Reading.TheVariants.{Asks, GoesOn}
use Rattle.cosem.specs.Tags.{dedicated_tag, is_release, release_response, exception_bytes}
use Rattle.cosem.specs.Requests.{read_action, read_service}
use Rattle.acse.specs.declared.Aarq.{Aarq as ReadAarq}
use Rattle.acse.specs.declared.Aarq.TheVariants.{Plain, Ciphered}
use Rattle.acse.specs.declared.InitiateRequest.{InitiateRequest}
use Rattle.acse.specs.Initiate.{read_request}
use Rattle.acse.specs.Aarq.{read_aarq}
use Rattle.counters.specs.Window.{in_window}
use Rattle.envelope.specs.Opening.{Opened, fails, opens, opened}
use Rattle.protocol.specs.declared.Secrets.{Secrets}
use Rattle.protocol.specs.Clients.{ciphering, peer, with_peer, linked, associates, counters, agreed_in, blocks_in, lent_keys, dedicated_keys, permitted, bit_agreed, is_unknown}
use Rattle.protocol.specs.Rulings.{Test, none as no_test, frame, link_up_with_information, p5_holds_v, link_down_while_down, data_while_down, unknown_tag, tag_not_permitted, bit_not_agreed, envelope_unopened, outside_window, malformed_apdu, not_the_challenge, refusal_of, nothing, ua, dm, reject, apdu, Ruling, says, asks, refused_aarq}
use Rattle.protocol.specs.Decide.{held_by_p5, link_up, link_down, accepted_plain, accepted_ciphered, initiated, enclosed, associating, released, wrap, request_of, asked, accepted, advanced, asked_inside, is_challenge, proves_itself, proved, disproved, challenged, answered_challenge, admitted, challenge_enclosed, request_enclosed, by_tag, conversed, carried, heard, secrets_of, ruled}
use Rattle.protocol.specs.Outcomes.{head_in, apdu_in, tag_sent, Heard, Reaches, MaySend, Unreached, Timely, Opens, by_guk, by_key, Brings, Accepted, Outside, Misshapen, unreadable, without_the_bit, Excepted, ExceptedInside, malformed_proof, malformed_request}
use Rattle.protocol.specs.Outcomes as out
use Rattle.protocol.proofs.MayLaws.{may, may_permitted, may_agreed}
use Rattle.protocol.proofs.KindLaws.{action_no_get, numbered_kind}

pub data Leaf (l : Line) (a : Lent) : Ruling → Type 0 where
  -- 4, 5; and 8, 9
  unheard : (t : FrameTest) → number_of t < 8 → Leaf l a (says (frame t) nothing l)
  rejects : (t : FrameTest) → 8 ≤ number_of t → FirstOf meter_side frame_tests a.received t → Leaf l a (says (frame t) (reject (head_in a) t) l)
  -- 10
  no_link : (x : Test) {c : Client} → Heard a c → refusal_of x ≡ 10 → Leaf l a (says x (dm (head_in a)) l)
  -- links
  goes_up : (c : Client) → Heard a c → held_by_p5 c l ≡ false → Leaf l a (says no_test (ua (head_in a)) (with_peer c (linked true (peer c l)) l))
  goes_down : (c : Client) → Heard a c → (peer c l).up ≡ true → Leaf l a (says no_test (ua (head_in a)) (with_peer c (linked false (peer c l)) l))
  -- 12, outside an envelope
  excepts : (x : Test) {c : Client} {e : Exception} → refusal_of x ≡ 12 → Reaches a l c → Excepted a l c e
      → Leaf l a (says x (apdu (head_in a) (exception_bytes e)) l)
  -- an AARQ: 11, or an association; and its end
  departs : (c : Client) → Timely a l c Aarq → Leaf l a (refused_aarq c (head_in a) l)
  associates_plain : (proposed : List ℕ) → Timely a l Verification Aarq → Leaf l a (accepted_plain l (head_in a) proposed)
  begins : (c : CipherClient) (client key proposed : List ℕ) (n : ℕ) → Timely a l (Ciphering c) Aarq
      → Leaf l a (accepted_ciphered l (secrets_of a) c (head_in a) client key proposed n)
  releases : (c : Client) → Timely a l c Rlrq → Leaf l a (says no_test (apdu (head_in a) release_response) (associates c none l))
  -- the body is asked; by a numbered request of V on no sound line (proofs/Settling)
  serves : (q : Asked) → Timely a l Verification (PlainRequest Get) → read_service Get (apdu_in a) ≡ Some (Asks q)
      → Leaf l a (asks (request_of l Verification (apdu_in a) q) (wrap a.ak Verification (head_in a) 0xC0) l)
  goes_on : (invoke number : ℕ) → Timely a l Verification (PlainRequest Get) → blocks_in Verification l ≡ true
      → Leaf l a (asks (go_on invoke number) (wrap a.ak Verification (head_in a) 0xC0) l)
  -- envelopes of a client that ciphers: 6, and 7
  unopened : {c : CipherClient} {t : Tag} → Timely a l (Ciphering c) t → Leaf l a (says envelope_unopened nothing l)
  drops : (c : CipherClient) {t : Tag} {n : ℕ} {text : List ℕ} → Brings a l c t n text → Outside c n l
      → Leaf l a (says outside_window nothing (associates (Ciphering c) none l))
  -- 12, inside one
  excepts_inside : (x : Test) (c : CipherClient) {t : Tag} {n : ℕ} {text : List ℕ} {e : Exception} → refusal_of x ≡ 12 → Brings a l c t n text → Accepted c n l → ExceptedInside l c text t e
      → Leaf l a (says x (apdu (head_in a) (exception_bytes e)) (accepted c n l))
  -- a proof: right, or 13
  proves : (c : CipherClient) (invoke n : ℕ) {text : List ℕ} → Brings a l c GlobalAction n text → Accepted c n l → Leaf l a (proved l (secrets_of a) c (head_in a) invoke n)
  disproves : (c : CipherClient) (invoke n : ℕ) {text : List ℕ} → Brings a l c GlobalAction n text → Accepted c n l → Leaf l a (disproved l (secrets_of a) c (head_in a) invoke n)
  -- the body is asked
  serves_inside : (c : CipherClient) (k : ServiceKind) {n : ℕ} {text : List ℕ} (q : Asked) → Brings a l c (DedicatedRequest k) n text → Accepted c n l → read_service k text ≡ Some (Asks q)
      → Leaf l a (asks (request_of l (Ciphering c) text q) (wrap a.ak (Ciphering c) (head_in a) (dedicated_tag k)) (advanced c (accepted c n l)))
  goes_on_inside : (c : CipherClient) (k : ServiceKind) {n : ℕ} {text : List ℕ} (invoke number : ℕ) → Brings a l c (DedicatedRequest k) n text → Accepted c n l → read_service k text ≡ Some (GoesOn invoke number) → blocks_in (Ciphering c) l ≡ true
      → Leaf l a (asks (go_on invoke number) (wrap a.ak (Ciphering c) (head_in a) (dedicated_tag k)) (advanced c (accepted c n l)))

module _ (l : Line) (a : Lent) where
  abbrev Is : Ruling → Type 0
  Is r = Leaf l a r

  abbrev h : Head
  h = head_in a

  abbrev lent : Secrets
  lent = secrets_of a

  -- Links.

  leaf_up : (c : Client) → Heard a c → (i : Bool) → Is (link_up l c h i)
  unfolding link_up
  leaf_up c from i =
      by_test Is i (λ _. no_link link_up_with_information from refl) λ _.
      by_test Is (held_by_p5 c l) (λ _. no_link p5_holds_v from refl) (goes_up c from)

  leaf_down : (c : Client) → Heard a c → Is (link_down l c h)
  unfolding link_down
  leaf_down c from = by_test Is (peer c l).up (goes_down c from) (λ _. no_link link_down_while_down from refl)

  -- Plain APDUs.

  leaf_released : (c : Client) → Timely a l c Rlrq → Is (released l c h (apdu_in a))
  unfolding released
  leaf_released c t = by_test Is (is_release (apdu_in a)) (λ _. releases c t) (λ e. excepts malformed_apdu refl t.reaches (out.malformed_release t e))

  -- what the reading is, of a request that is malformed
  misshapen : {c : Client} {r x : Option Reading} → x ≡ r → Misshapen l c r → Misshapen l c x
  misshapen {c} e m = subst (Misshapen l c) (sym e) m

  leaf_asked : Timely a l Verification (PlainRequest Get) → (r : Option Reading) → read_service Get (apdu_in a) ≡ r → Is (asked l lent Verification h (apdu_in a) r)
  leaf_asked t None e = excepts malformed_apdu refl t.reaches (out.malformed_get t (misshapen e unreadable))
  leaf_asked t (Some (Asks q)) e = serves q t e
  leaf_asked t (Some (GoesOn i n)) e =
      by_test Is (blocks_in Verification l) (goes_on i n t) (λ b. excepts malformed_apdu refl t.reaches (out.malformed_get t (misshapen e (without_the_bit b))))

  -- Envelopes of a client that ciphers.

  module _ (c : CipherClient) where
    leaf_initiated : Timely a l (Ciphering c) Aarq → (client text : List ℕ) (n : ℕ) (r : Option InitiateRequest) → Is (initiated l lent c h client text n r)
    leaf_initiated t client text n (Some x) = begins c client (take 16 (drop x.key text)) (take 3 (drop x.services text)) n t
    leaf_initiated t client text n None = departs (Ciphering c) t

    leaf_enclosed : Timely a l (Ciphering c) Aarq → (client : List ℕ) (o : Opened) → Is (enclosed l lent c h client o)
    leaf_enclosed t client fails = departs (Ciphering c) t
    leaf_enclosed t client (opens n text) = leaf_initiated t client text n (read_request text)

    -- by what the envelope opens to, and its counter
    leaf_admitted : {tag : Tag} → Timely a l (Ciphering c) tag → (o : Opened) (g : ℕ → List ℕ → Ruling) → ((n : ℕ) (text : List ℕ) → o ≡ opens n text → Opens a l c tag n text)
        → ((n : ℕ) (text : List ℕ) → Brings a l c tag n text → Accepted c n l → Is (g n text)) → Is (admitted l c o g)
    leaf_admitted t fails g b k = unopened t
    leaf_admitted {tag} t (opens n text) g b k =
        let o : Brings a l c tag n text = record { timely = t; opening = b n text refl } in
        by_test Is (in_window (counters c l).accepted n) (k n text o) (drops c o)

    leaf_inside : (k : ServiceKind) (n : ℕ) (text : List ℕ) → Brings a l c (DedicatedRequest k) n text → Accepted c n l → (r : Option Reading) → read_service k text ≡ r → Is (asked_inside l lent c h k n text r)
    leaf_inside k n text o w None e = excepts_inside malformed_apdu c refl o w (malformed_request (misshapen e unreadable))
    leaf_inside k n text o w (Some (Asks q)) e = serves_inside c k q o w e
    leaf_inside k n text o w (Some (GoesOn i j)) e =
        by_test Is (blocks_in (Ciphering c) l) (goes_on_inside c k i j o w e) (λ b. excepts_inside malformed_apdu c refl o w (malformed_request (misshapen e (without_the_bit b))))

    leaf_request : (k : ServiceKind) → Timely a l (Ciphering c) (DedicatedRequest k) → Is (request_enclosed l lent c h k (apdu_in a))
    unfolding request_enclosed
    leaf_request k t =
        leaf_admitted t (opened (dedicated_keys a.ak c l) (ciphering c l).peer.title (dedicated_tag k) (apdu_in a)) _ (λ n text e. by_key e)
        (λ n text o w. leaf_inside k n text o w (read_service k text) refl)

    leaf_challenged : (n : ℕ) (text : List ℕ) (q : Asked) → read_action text ≡ Some (Asks q) → Brings a l c GlobalAction n text → Accepted c n l → Is (challenged l lent c h n text q)
    unfolding challenged
    leaf_challenged n text q e o w =
        by_test Is (not (is_challenge c text q)) (λ i. excepts_inside not_the_challenge c refl o w (out.not_the_challenge q e (not-true _ i))) λ _.
        by_test Is (proves_itself l lent c n text q) (λ _. proves c q.invoke n o w) (λ _. disproves c q.invoke n o w)

    leaf_answered : (n : ℕ) (text : List ℕ) → Brings a l c GlobalAction n text → Accepted c n l → (r : Option Reading) → read_action text ≡ r → Is (answered_challenge l lent c h n text r)
    leaf_answered n text o w None e = excepts_inside malformed_apdu c refl o w (malformed_proof e)
    leaf_answered n text o w (Some (Asks q)) e = leaf_challenged n text q e o w
    leaf_answered n text o w (Some (GoesOn i j)) e = absurd (action_no_get (numbered_kind Action text i j e))

    leaf_challenge : Timely a l (Ciphering c) GlobalAction → Is (challenge_enclosed l lent c h (apdu_in a))
    unfolding challenge_enclosed
    leaf_challenge t =
        leaf_admitted t (opened (lent_keys lent) (ciphering c l).peer.title 0xCB (apdu_in a)) _ (λ n text e. by_guk e)
        (λ n text o w. leaf_answered n text o w (read_action text) refl)

  leaf_associating : (c : Client) → Timely a l c Aarq → (r : Option ReadAarq) → Is (associating l lent c h (apdu_in a) r)
  leaf_associating Verification t (Some (Plain p)) = associates_plain (take 3 (drop p (apdu_in a))) t
  leaf_associating (Ciphering c) t (Some (Plain p)) = departs (Ciphering c) t
  leaf_associating (Ciphering c) t (Some (Ciphered d e)) =
      leaf_enclosed c t (take 8 (drop d (apdu_in a))) (opened (lent_keys lent) (ciphering c l).peer.title 0x21 (drop e (apdu_in a)))
  leaf_associating Verification t (Some (Ciphered d e)) = departs Verification t
  leaf_associating c t None = departs c t

  -- By the tag. What no client may send has no leaf.

  leaf_tag : {c : Client} {x : Association} {t : Tag} → MaySend c x t → Timely a l c t → Is (by_tag l lent c h (apdu_in a) t)
  leaf_tag {c} out.aarq t = leaf_associating c t (read_aarq (apdu_in a) c (peer c l).title)
  leaf_tag {c} out.release_pending t = leaf_released c t
  leaf_tag {c} out.release_associated t = leaf_released c t
  leaf_tag (out.get e) t = leaf_asked t (read_service Get (apdu_in a)) refl
  leaf_tag (out.challenge {c}) t = leaf_challenge c t
  leaf_tag (out.enclosed_get {c} e) t = leaf_request c Get t
  leaf_tag (out.enclosed_action {c} e) t = leaf_request c Action t

  leaf_conversed : (c : Client) → Reaches a l c → Is (conversed l lent c h (apdu_in a) (tag_sent a))
  unfolding conversed
  leaf_conversed c r =
      let x = (peer c l).association in
      by_test Is (is_unknown (tag_sent a)) (λ e. excepts unknown_tag refl r (out.unknown e)) λ u.
      by_test Is (not (permitted c x (tag_sent a)))
      (λ p. excepts tag_not_permitted refl r (out.not_allowed u (λ s. false≢true (sym (not-true _ p) ∙ may_permitted s)))) λ p.
      by_test Is (not (bit_agreed (agreed_in x) (tag_sent a)))
      (λ b. excepts bit_not_agreed refl r (out.not_allowed u (λ s. false≢true (sym (not-true _ b) ∙ may_agreed s)))) λ b.
      (let m = may c x (tag_sent a) (not-false _ p) (not-false _ b) in leaf_tag m (record { reaches = r; tag = refl; may = m }))

  -- By the frame.

  leaf_carried : (c : Client) → Heard a c → byte a.received 5 ≡ ui → Is (carried l lent c h (apdu_in a))
  unfolding carried
  leaf_carried c from u =
      by_test Is (peer c l).up (λ up. leaf_conversed c (record { heard = from; carries = u; up = up })) (λ _. no_link data_while_down from refl)

  -- a known sender's address is its client's
  sender_address : (c : Client) (n : ℕ) → sender_of n ≡ Some c → n ≡ address_of c
  unfolding sender_of
  sender_address c n e = go (eqb n (address_of Verification)) refl (eqb n (address_of (Ciphering Han))) refl e
    where
      go : (v : Bool) → eqb n (address_of Verification) ≡ v → (w : Bool) → eqb n (address_of (Ciphering Han)) ≡ w → cond v (Some Verification) (cond w (Some (Ciphering Han)) None) ≡ Some c → n ≡ address_of c
      go true p w q k = let z : Verification ≡ c = cc in eqb-true n (address_of Verification) p ∙ ap address_of z
      go false p true q k = let z : Ciphering Han ≡ c = cc in eqb-true n (address_of (Ciphering Han)) q ∙ ap address_of z
      go false p false q k = absurd (let z : ◌≡◌ {A = ℕ} 0 1 = cc in omega arith)

  from_client : (c : Client) {control : ℕ} → AcceptedFrame c control a.received → Heard a c
  from_client c f = record { passes = f.passes; sender = sender_address c (byte a.received 4) f.source }

  leaf_heard : (x : Frame) → Told a.received x → Is (heard l lent a.received x)
  leaf_heard (Unanswered t) told = unheard t told.0
  leaf_heard (Rejected t g) told = rw told.2 (rejects t told.0 told.1)
  leaf_heard (LinkUp c g i) told = rw told.1 (leaf_up c (from_client c told.0) i)
  leaf_heard (LinkDown c g) told = rw told.1 (leaf_down c (from_client c told.0))
  leaf_heard (Apdu c g start end) told =
      let last : end ≡ length a.received - 3 = omega (arith, told.2.last) in
      rw (told.1, told.2.first, last) (leaf_carried c (from_client c told.0) told.0.command)

-- what a frame comes to, whatever the line
pub leaf : (l : Line) (a : Lent) → Leaf l a (ruled l a)
unfolding ruled
leaf l a = leaf_heard l a (read_frame a.received) (read_told a.received)

-- a tag that the client may not send is refused before `by_tag` is asked
pub unreached : Unreached
unreached l c h t x y never = go (is_unknown t) (permitted c held t) refl (bit_agreed (agreed_in held) t) refl
  where
    held : Association
    held = (peer c l).association

    go : (u p : Bool) → permitted c held t ≡ p → (b : Bool) → bit_agreed (agreed_in held) t ≡ b
        → cond u (says unknown_tag (apdu h (exception_bytes ServiceUnknown)) l)
        (cond (not p) (says tag_not_permitted (apdu h (exception_bytes ServiceNotAllowed)) l) (cond (not b) (says bit_not_agreed (apdu h (exception_bytes ServiceNotAllowed)) l) x))
        ≡ cond u (says unknown_tag (apdu h (exception_bytes ServiceUnknown)) l)
        (cond (not p) (says tag_not_permitted (apdu h (exception_bytes ServiceNotAllowed)) l) (cond (not b) (says bit_not_agreed (apdu h (exception_bytes ServiceNotAllowed)) l) y))
    go true p e b f = refl
    go false false e b f = refl
    go false true e false f = refl
    go false true e true f = absurd (never (may c held t e f))
