-- A client that ciphers is let in: a link-up, an AARQ with its envelope and the answered challenge are accepted in turn. And by a proof whose counter is not
-- allowed it is not. `CipheringLetIn` and `WrongStepsDenied` of specs/Lazy, proved.
use mathlib.Core.Path.{◌≡◌, refl, sym, ap, ◌∙◌}
use mathlib.Core.Bool.{Bool, true, false, cond, ◌&&◌}
use mathlib.Core.List.{List, [], ◌∷◌, ◌++◌, append_assoc, append-nil}
use Prim.Native.Nat.{ℕ, ◌+◌, ◌^◌, ◌≤◌, ◌<◌}
use native.Mathlib.Omega.{arith}
use lib.Dec.{lit≤}
use lib.ListN.{length, take, drop, get_or, length-append, length-drop}
use lib.Seq.{take_all}
use borrow.Author.Tests.{eq-eqb}
use Rattle.std.specs.Prelude.{Option, Some, None}
use Rattle.std.specs.Prelude.{Option, Some, None}
use Rattle.wire.specs.Numbers.{number_high, length_field}
use Rattle.wire.specs.Reading.{same_bytes, expected, length_at, number_at}
use Rattle.wire.proofs.NumberLaws.{number_one}
use Rattle.wire.proofs.ReadingLaws.{number_here, skip_here}
use Rattle.model.specs.declared.Client.TheVariants.{Ciphering}
use Rattle.model.specs.declared.CipherClient.{CipherClient}
use Rattle.model.specs.declared.CipherClient.TheVariants.{Han}
use Rattle.model.specs.declared.Counters.{Counters}
use Rattle.model.specs.Limits.{longest_sent, longest_received, least_size, envelope_length, greatest_apdu}
use Rattle.model.specs.Services.{offered, common}
use Rattle.model.specs.State.{Association, none as unassociated, pending, associated, CipheringPeer, Line, Model, with_line}
use Rattle.model.specs.Soundness.{is_none, sound}
use Rattle.model.specs.Objects.{challenge_of, denied, action_answer}
use Rattle.model.specs.Calls.{Lent, frame as frame_call, Outcome, decided, settled, settles}
use Rattle.hdlc.specs.declared.Head.{Head}
use Rattle.hdlc.specs.Replies.{apdu_frame}
use Rattle.axdr.specs.Values.{greatest_depth, layout_of, value_within, value_end}
use Rattle.cosem.specs.declared.Tag.TheVariants.{Aarq}
use Rattle.cosem.specs.declared.Wanted.TheVariants.{InvokeWith}
use Rattle.cosem.specs.declared.Asked.{Asked}
use Rattle.cosem.specs.declared.Reading.TheVariants.{Asks}
use Rattle.cosem.specs.Tags.{tag_of, tag_in}
use Rattle.cosem.specs.Requests.{action_normal, byte, asking, optional_part, last_value, read_action}
use Rattle.cosem.proofs.RequestLaws.{name_here}
use Rattle.acse.specs.declared.Aarq.TheVariants.{Ciphered}
use Rattle.acse.specs.Initiate.{keyed_request, read_request, initiate_response}
use Rattle.acse.specs.Aarq.{ciphered_aarq, read_aarq}
use Rattle.acse.specs.Aare.{ciphered_aare_head}
use Rattle.acse.proofs.LaidLaws.{written}
use Rattle.acse.proofs.AarqLaws.{ciphered_accepted_lem, challenge_there, envelope_there, keyed_accepted, key_there, keyed_services_there}
use Rattle.counters.specs.Advance.{next_counter, taken}
use Rattle.counters.specs.Window.{in_window, inner_allowed, accepting}
use Rattle.counters.specs.Steps.{StepsBetween}
use Rattle.counters.proofs.StepLaws.{window_by_steps, inner_by_steps}
use Rattle.material.specs.Material.{Keys}
use Rattle.envelope.specs.Layout.{sealed_envelope}
use Rattle.envelope.specs.Opening.{longest_apdu}
use Rattle.envelope.specs.Challenge.{proof_value, right_proof}
use Rattle.envelope.proofs.StandsLaws.{expect_back}
use Rattle.envelope.proofs.CloseLaws.{length_envelope}
use Rattle.envelope.proofs.ProofLaws.{length_proof, proof_right}
use Rattle.envelope.proofs.RoundTrip.{opens_closed}
use Rattle.protocol.specs.declared.Secrets.{Secrets}
use Rattle.protocol.specs.Clients.{ciphering, linked, with_association, associates, counters, with_counters, held, agreed_in, key_in, client_challenge, lent_keys, is_associated}
use Rattle.protocol.specs.Rulings.{none, plain, proof as proof_text, proved_text, encloses, Ruling, says, decision}
use Rattle.protocol.specs.Decide.{accepted_ciphered, is_challenge, proof_in, proves_itself, proved, disproved, challenged, challenge_enclosed, conversed, carried, secrets_of, p2}
use Rattle.protocol.specs.Outcomes.{outcome, head_in, said}
use Rattle.protocol.specs.Lazy.{Enough, up, keyed_initiate, aarq_around, challenge_byte, proof_action, Entrance, Allowed, Enters, without_transfer, LetInCiphering, CipheringLetIn, Proving, WrongStepsDenied}
use Rattle.protocol.proofs.Claim.{p2_stays_sound}
use Rattle.protocol.proofs.Settling.{up_none, settled_idle, settled_ended}
use Rattle.protocol.proofs.LineLaws.{own_ciphering, own_title, own_part, replaced}
use Rattle.protocol.proofs.LinkUp.{outcome_ruled, ruled_request, tag_first, up_outcome, up_sound}
use Rattle.protocol.proofs.Enclosed.{tag_sealed, link_up_of}

-- The initiate request.

module _ (key services size : List ℕ) (sixteen : length key ≡ 16) (three : length services ≡ 3) (two : length size ≡ 2) where
  abbrev text : List ℕ
  text = keyed_initiate key services size

  initiate_written : text ≡ written keyed_request (key ∷ services ∷ size ∷ [])
  unfolding keyed_initiate
  initiate_written = simp (append_assoc, append-nil)

  length_initiate : length text ≡ 31
  unfolding keyed_initiate
  length_initiate = simp length-append (omega arith)

  initiate_read : least_size longest_sent ≤ number_high size → read_request text ≡ Some (record { key = 3; services = 26 })
  initiate_read least = rw initiate_written (keyed_accepted key services size sixteen three two least)

  initiate_key : take 16 (drop 3 text) ≡ key
  initiate_key = rw initiate_written (key_there key services size sixteen)

  initiate_services : take 3 (drop 26 text) ≡ services
  initiate_services = rw initiate_written (keyed_services_there key services size sixteen three)

  -- its envelope
  length_enclosed : (k : Keys) (title : List ℕ) (counter : ℕ) → length (sealed_envelope k title 0x21 counter text) ≡ 50
  unfolding envelope_length length_field
  length_enclosed k title counter = length_envelope k title 0x21 counter text ∙ rw length_initiate

-- The AARQ.

module _ (c : CipherClient) (title challenge envelope : List ℕ) (eight : length title ≡ 8) (eight' : length challenge ≡ 8) (fifty : length envelope ≡ 50) where
  abbrev aarq : List ℕ
  aarq = aarq_around title challenge envelope

  aarq_written : aarq ≡ written (ciphered_aarq (Ciphering c) title) (challenge ∷ envelope ∷ [])
  unfolding aarq_around
  aarq_written = simp (append_assoc, append-nil)

  length_aarq : length aarq ≡ 104
  unfolding aarq_around
  length_aarq = simp length-append (omega arith)

  tag_aarq : tag_in aarq ≡ Aarq
  unfolding aarq_around tag_of
  tag_aarq = tag_first 0x60 _

  aarq_read : read_aarq aarq (Ciphering c) title ≡ Some (Ciphered 42 54)
  aarq_read = rw aarq_written (ciphered_accepted_lem (Ciphering c) title challenge envelope refl eight' fifty)

  aarq_challenge : take 8 (drop 42 aarq) ≡ challenge
  aarq_challenge = rw aarq_written (challenge_there (Ciphering c) title challenge envelope eight eight')

  aarq_envelope : drop 54 aarq ≡ envelope
  aarq_envelope =
      sym (take_all 50 (drop 54 aarq) (simp length-drop (omega (arith, length_aarq))))
      ∙ rw aarq_written (envelope_there (Ciphering c) title challenge envelope eight eight' fifty)

-- on a line with the client's link up and no association
module _ (c : CipherClient) (l : Line) (a : Secrets) (h : Head) (challenge key services size : List ℕ) (counter : ℕ) where
  abbrev title : List ℕ
  title = (ciphering c l).peer.title

  aarq_carried : length title ≡ 8 → length challenge ≡ 8 → length key ≡ 16 → length services ≡ 3 → length size ≡ 2 → least_size longest_sent ≤ number_high size → counter < 256 ^ 4
      → carried (up (Ciphering c) l) a (Ciphering c) h (aarq_around title challenge (sealed_envelope (lent_keys a) title 0x21 counter (keyed_initiate key services size)))
      ≡ accepted_ciphered (up (Ciphering c) l) a c h challenge key services counter
  unfolding carried conversed longest_apdu greatest_apdu longest_received
  aarq_carried eight eight' sixteen three two least small =
      let text = keyed_initiate key services size in
      let env = sealed_envelope (lent_keys a) title 0x21 counter text in
      let fifty = length_enclosed key services size sixteen three two (lent_keys a) title counter in
      let n = length_envelope (lent_keys a) title 0x21 counter text in
      rw (
        own_part (Ciphering c) (linked true (ciphering c l).peer) l,
        tag_aarq c title challenge env eight eight' fifty,
        own_part (Ciphering c) (linked true (ciphering c l).peer) l,
        aarq_read c title challenge env eight eight' fifty,
        aarq_challenge c title challenge env eight eight' fifty,
        aarq_envelope c title challenge env eight eight' fifty,
        own_ciphering c (record { peer = linked true (ciphering c l).peer; counters = counters c l }) l,
        opens_closed (lent_keys a) title 0x21 counter text small (omega arith),
        initiate_read key services size sixteen three two least,
        initiate_key key services size sixteen three two,
        initiate_services key services size sixteen three two,
      )

-- The proof: an octet string of 17 bytes.

own_name_lem : (c : CipherClient) → same_bytes (challenge_of c).bytes (0x00 ∷ 0x00 ∷ 0x28 ∷ 0x00 ∷ challenge_byte c ∷ 0xFF ∷ []) && true ≡ true
unfolding same_bytes
own_name_lem Han = refl

module _ (c : CipherClient) (invoke : ℕ) (rest : List ℕ) (size : length rest ≡ 17) where
  abbrev action : List ℕ
  action = proof_action c invoke (0x09 ∷ 0x11 ∷ rest)

  abbrev asked : Asked
  asked = record { invoke = invoke; class = 15; wanted = InvokeWith 1 13 }

  length_action : length action ≡ 32
  unfolding proof_action
  length_action = omega (arith, size)

  -- its bytes from 11 on: method, presence, kind and length
  byte_at : (i : ℕ) → i < 32 → number_at 1 action i ≡ Some (get_or action i 0, i + 1)
  byte_at i h = number_here action i 1 (omega (arith, length_action)) ∙ ap (λ (n : ℕ). Some (n, (i + 1))) (number_one action i (omega (arith, length_action)))

  presence : number_at 1 action 12 ≡ Some (1, 13)
  unfolding proof_action
  presence = byte_at 12 (omega arith)

  kind : number_at 1 action 13 ≡ Some (9, 14)
  unfolding proof_action
  kind = byte_at 13 (omega arith)

  counted : number_at 1 action 14 ≡ Some (17, 15)
  unfolding proof_action
  counted = byte_at 14 (omega arith)

  octets : length_at action 14 ≡ Some (17, 15)
  unfolding length_at
  octets = rw counted

  value_ends : value_end action 13 ≡ Some 32
  unfolding value_end greatest_depth value_within layout_of
  value_ends = rw (kind, octets) (skip_here action 15 17 (omega (arith, length_action)))

  last_value_lem : last_value action 13 ≡ true
  unfolding last_value
  last_value_lem = rw value_ends (eq-eqb 32 (length action) (sym length_action))

  choice_stands : take 2 (drop 0 action) ≡ action_normal
  unfolding proof_action
  choice_stands = refl

  choice : expected action 0 action_normal ≡ Some 2
  choice = expect_back action 0 action_normal (omega (arith, length_action)) choice_stands

  part : optional_part action_normal action ≡ Some true
  unfolding optional_part
  part = rw (choice, presence)

  fields : asking action (InvokeWith (byte action 11) 13) ≡ Some (Asks asked)
  unfolding proof_action
  fields = refl

  action_read : read_action action ≡ Some (Asks asked)
  unfolding read_action
  action_read = rw (part, last_value_lem) fields

  name_same : same_bytes (challenge_of c).bytes (take 6 (drop 5 action)) && true ≡ true
  unfolding proof_action
  name_same = own_name_lem c

  is_challenge_lem : is_challenge c action asked ≡ true
  unfolding is_challenge
  is_challenge_lem = rw (name_here action (omega (arith, length_action))) name_same

  parameter : proof_in action (InvokeWith 1 13) ≡ 0x09 ∷ 0x11 ∷ rest
  unfolding proof_action
  parameter = refl

-- a proof is such a string
proof_rest : (k : Keys) (title challenge : List ℕ) (counter : ℕ) → List ℕ
proof_rest k title challenge counter = drop 2 (proof_value k title challenge counter)

proof_form : (k : Keys) (title challenge : List ℕ) (counter : ℕ) → proof_value k title challenge counter ≡ 0x09 ∷ 0x11 ∷ proof_rest k title challenge counter
unfolding proof_rest proof_value
proof_form k title challenge counter = refl

length_rest : (k : Keys) (title challenge : List ℕ) (counter : ℕ) → length (proof_rest k title challenge counter) ≡ 17
length_rest k title challenge counter = omega (arith, length_proof k title challenge counter, ap length (proof_form k title challenge counter))

-- the ACTION that bears it, and its envelope
length_proving : (c : CipherClient) (k : Keys) (title challenge : List ℕ) (invoke inner : ℕ) → length (proof_action c invoke (proof_value k title challenge inner)) ≡ 32
length_proving c k title challenge invoke inner =
    rw (proof_form k title challenge inner) (length_action c invoke (proof_rest k title challenge inner) (length_rest k title challenge inner))

length_proving_enclosed : (c : CipherClient) (k : Keys) (title challenge : List ℕ) (invoke inner outer : ℕ)
    → length (sealed_envelope k title 0xCB outer (proof_action c invoke (proof_value k title challenge inner))) ≡ 51
unfolding envelope_length length_field
length_proving_enclosed c k title challenge invoke inner outer =
    length_envelope k title 0xCB outer (proof_action c invoke (proof_value k title challenge inner)) ∙ rw (length_proving c k title challenge invoke inner)

-- on a line with the client pending, its link up
module _ (c : CipherClient) (l : Line) (a : Secrets) (h : Head) {from agreed key client meter : List ℕ} {n : Counters} (is-pending : ciphering c l ≡ record { peer = record { title = from; up = true; association = pending agreed key client meter }; counters = n }) (invoke inner outer : ℕ) where
  abbrev k : Keys
  k = lent_keys a

  proof_carried : {allowed : Bool} → in_window n.accepted outer ≡ true → inner_allowed n.accepted outer inner ≡ allowed → inner < 256 ^ 4 → outer < 256 ^ 4
      → carried l a (Ciphering c) h (sealed_envelope k from 0xCB outer (proof_action c invoke (proof_value k from meter inner)))
      ≡ cond allowed (proved l a c h invoke outer) (disproved l a c h invoke outer)
  unfolding carried conversed challenge_enclosed challenged proves_itself tag_of longest_apdu greatest_apdu longest_received envelope_length length_field
  proof_carried {allowed} w i small small' =
      let rest = proof_rest k from meter inner in
      let size = length_rest k from meter inner in
      let form = proof_form k from meter inner in
      let text = proof_action c invoke (0x09 ∷ 0x11 ∷ rest) in
      let long = length_action c invoke rest size in
      let right : right_proof k from meter n.accepted outer (0x09 ∷ 0x11 ∷ rest) ≡ allowed = rw (← form) (proof_right k from meter inner small n.accepted outer ∙ i) in
      let stands = ap (λ (p : CipheringPeer). p.peer) is-pending in
      let holds = ap (λ (p : CipheringPeer). p.peer.association) is-pending in
      let counted-so = ap (λ (p : CipheringPeer). p.counters) is-pending in
      rw (
        form,
        stands,
        tag_sealed k from 0xCB outer text,
        is-pending,
        opens_closed k from 0xCB outer text small' (rw long (lit≤ tt)),
        counted-so,
        w,
        action_read c invoke rest size,
        is_challenge_lem c invoke rest size,
        is-pending,
        holds,
        counted-so,
        parameter c invoke rest size,
        right,
      )

-- the line after the AARQ
abbrev asked_line : CipherClient → Line → Entrance → (challenge : List ℕ) → Line
asked_line c l e challenge =
    with_counters c (taken (accepting (counters c l) e.first)).counters
    (associates (Ciphering c) (pending (common e.services (offered (Ciphering c))) e.key e.challenge challenge) (up (Ciphering c) l))

module _ (c : CipherClient) (l : Line) (e : Entrance) where
  -- the client's part of it, and before
  up_part : ciphering c (up (Ciphering c) l) ≡ record { peer = linked true (ciphering c l).peer; counters = counters c l }
  up_part = own_ciphering c _ l

  up_counters : counters c (up (Ciphering c) l) ≡ counters c l
  up_counters = ap (λ (p : CipheringPeer). p.counters) up_part

  asked_part : (challenge : List ℕ)
      → ciphering c (asked_line c l e challenge)
      ≡ record {
        peer = with_association (pending (common e.services (offered (Ciphering c))) e.key e.challenge challenge) (linked true (ciphering c l).peer);
        counters = (taken (accepting (counters c l) e.first)).counters;
      }
  asked_part challenge =
      let x = pending (common e.services (offered (Ciphering c))) e.key e.challenge challenge in
      let n = (taken (accepting (counters c l) e.first)).counters in
      own_ciphering c _ _
      ∙ ap (λ (p : CipheringPeer). record { peer = p.peer; counters = n }) (own_ciphering c _ (up (Ciphering c) l))
      ∙ ap (λ (p : CipheringPeer). record { peer = with_association x p.peer; counters = n }) up_part

  asked_title : (challenge : List ℕ) → (asked_line c l e challenge).title ≡ l.title
  asked_title challenge = own_title c _ _ ∙ own_title c _ _ ∙ own_title c _ l

  -- what is said to the AARQ
  begun : (a : Secrets) (h : Head)
      → accepted_ciphered (up (Ciphering c) l) a c h e.challenge e.key e.services e.first
      ≡ (let next = taken (accepting (counters c l) e.first) in
      says none
      (encloses h (ciphered_aare_head (Ciphering c) l.title a.challenge)
      (record { client = c; key = a.guk; ak = a.ak; title = l.title; tag = 0x28; number = next.number; text = plain (initiate_response (common e.services (offered (Ciphering c)))) }))
      (asked_line c l e a.challenge))
  unfolding accepted_ciphered
  begun a h = rw (own_title c (record { peer = linked true (ciphering c l).peer; counters = counters c l }) l, up_counters)

  -- and to the proof
  proven : (a : Secrets) (h : Head) (challenge : List ℕ)
      → proved (asked_line c l e challenge) a c h e.invoke e.outer
      ≡ (let first = taken (accepting (taken (accepting (counters c l) e.first)).counters e.outer) in
      let second = taken first.counters in
      says none
      (encloses h []
      (record { client = c; key = a.guk; ak = a.ak; title = l.title; tag = 0xCF; number = second.number; text = proof_text e.invoke first.number e.challenge }))
      (with_counters c second.counters (associates (Ciphering c) (associated (common e.services (offered (Ciphering c))) e.key) (up (Ciphering c) l))))
  unfolding proved
  proven a h challenge =
      let after = asked_line c l e challenge in
      let x = pending (common e.services (offered (Ciphering c))) e.key e.challenge challenge in
      let n = (taken (accepting (counters c l) e.first)).counters in
      let first = taken (accepting n e.outer) in
      let second = taken first.counters in
      let goes : List ℕ → Association → Counters → Line → Ruling = λ title held counters line. (
      let one = taken (accepting counters e.outer) in
      let two = taken one.counters in
      says none
      (encloses h []
      (record { client = c; key = a.guk; ak = a.ak; title = title; tag = 0xCF; number = two.number; text = proof_text e.invoke one.number (client_challenge held) }))
      (with_counters c two.counters (associates (Ciphering c) (associated (agreed_in held) (key_in held)) line))
      ) in
      ap (λ (y : List ℕ). goes y (held c after) (counters c after) after) (asked_title challenge)
      ∙ ap (λ (p : CipheringPeer). goes l.title p.peer.association p.counters after) (asked_part challenge)
      ∙ ap (λ (y : Line). says none (encloses h [] (record { client = c; key = a.guk; ak = a.ak; title = l.title; tag = 0xCF; number = second.number; text = proof_text e.invoke first.number e.challenge })) y)
      (replaced c second.counters n x (associated (common e.services (offered (Ciphering c))) e.key) (up (Ciphering c) l))

module _ (c : CipherClient) (m : Model) (e : Entrance) (link aarq proof : Lent) (s : sound m ≡ true) (eight : length (ciphering c m.line).peer.title ≡ 8) (enough₁ : Enough link) (enough₂ : Enough aarq) (enough₃ : Enough proof) (ok : Allowed e) (enters : Enters c (ciphering c m.line).peer.title e link aarq proof) where
  abbrev l : Line
  l = m.line

  -- after the link-up, which ends the association before and with it a transfer; and after the AARQ
  abbrev m₁ : Model
  m₁ = with_line (up (Ciphering c) l) (without_transfer m)

  abbrev m₂ : Model
  m₂ = with_line (asked_line c l e aarq.challenge) (without_transfer m)

  first_settled : settled (with_line (up (Ciphering c) l) m) ≡ m₁
  first_settled = settled_ended (up (Ciphering c) l) m.body (ap is_associated (up_none c l))

  first_sound : sound m₁ ≡ true
  first_sound = ap sound (sym first_settled) ∙ up_sound (Ciphering c) m link s refl enough₁ enters.links

  second_settled : settled m₂ ≡ m₂
  second_settled = settled_idle (asked_line c l e aarq.challenge) m.body

  abbrev sent : ℕ
  sent = (counters c l).sent

  abbrev agreed : List ℕ
  agreed = common e.services (offered (Ciphering c))

  -- the AARQ on the first, and the challenge on the second
  aarq_outcome : outcome aarq m₁
      ≡ said 0
      (apdu_frame (head_in aarq)
      (ciphered_aare_head (Ciphering c) l.title aarq.challenge ++ sealed_envelope (lent_keys (secrets_of aarq)) l.title 0x28 (next_counter sent) (initiate_response agreed)))
      (asked_line c l e aarq.challenge) (without_transfer m)
  unfolding longest_received taken accepting
  aarq_outcome =
      let from = (ciphering c l).peer.title in
      let env = sealed_envelope (lent_keys (secrets_of aarq)) from 0x21 e.first (keyed_initiate e.key e.services e.size) in
      let fifty = length_enclosed e.key e.services e.size ok.key ok.services ok.size (lent_keys (secrets_of aarq)) from e.first in
      let long = length_aarq c from e.challenge env eight ok.challenge fifty in
      let reached = ruled_request (up (Ciphering c) l) aarq (Ciphering c) (aarq_around from e.challenge env) enters.asks (omega arith) (omega arith) in
      let carries = aarq_carried c l (secrets_of aarq) (head_in aarq) e.challenge e.key e.services e.size e.first eight ok.challenge ok.key ok.services ok.size ok.enough ok.small in
      outcome_ruled aarq m₁ enough₂ first_sound
      ∙ ap (λ (r : Ruling). settles (decided p2 (decision r) m₁)) (reached ∙ carries ∙ begun c l e (secrets_of aarq) (head_in aarq))

  second_sound : sound m₂ ≡ true
  second_sound = ap sound (sym second_settled) ∙ ap (λ (o : Outcome). sound o.next) (sym aarq_outcome) ∙ p2_stays_sound (frame_call aarq) m₁ first_sound

  proof_outcome : outcome proof m₂
      ≡ (let number = next_counter (next_counter sent) in
      let keys = lent_keys (secrets_of proof) in
      said 0
      (apdu_frame (head_in proof)
      (sealed_envelope keys l.title 0xCF (next_counter number) (proved_text keys l.title e.challenge e.invoke number)))
      (with_counters c (record { accepted = e.outer; sent = next_counter number }) (associates (Ciphering c) (associated agreed e.key) (up (Ciphering c) l))) (without_transfer m))
  unfolding longest_received taken accepting
  proof_outcome =
      let from = (ciphering c l).peer.title in
      let k = lent_keys (secrets_of proof) in
      let env = sealed_envelope k from 0xCB e.outer (proof_action c e.invoke (proof_value k from aarq.challenge e.inner)) in
      let window = window_by_steps.passes e.first e.outer ok.window in
      let inner = inner_by_steps.allowed e.first e.outer e.inner ok.between in
      let long = length_proving_enclosed c k from aarq.challenge e.invoke e.inner e.outer in
      let after = asked_line c l e aarq.challenge in
      let reached = ruled_request after proof (Ciphering c) env enters.proves (omega arith) (omega arith) in
      let carries = proof_carried c after (secrets_of proof) (head_in proof) (asked_part c l e aarq.challenge) e.invoke e.inner e.outer window inner (omega (arith, ok.between.inside)) (omega (arith, ok.window.counts)) in
      outcome_ruled proof m₂ enough₃ second_sound
      ∙ ap (λ (r : Ruling). settles (decided p2 (decision r) m₂)) (reached ∙ carries ∙ proven c l e (secrets_of proof) (head_in proof) aarq.challenge)

  let_in : LetInCiphering c m e link aarq proof
  unfolding taken accepting
  let_in =
      let first = up_outcome (Ciphering c) m link s refl enough₁ enters.links in
      let second = ap (λ (o : Outcome). outcome aarq o.next) first ∙ ap (outcome aarq) first_settled ∙ aarq_outcome in
      record { first = first; second = second; third = ap (λ (o : Outcome). outcome proof o.next) second ∙ ap (outcome proof) second_settled ∙ proof_outcome }

pub ciphering_let_in : CipheringLetIn
ciphering_let_in c m e link aarq proof s eight enough₁ enough₂ enough₃ ok enters = let_in c m e link aarq proof s eight enough₁ enough₂ enough₃ ok enters

-- A proof that proves nothing.

module _ (c : CipherClient) (a : Lent) (m : Model) (outer inner invoke : ℕ) (s : sound m ≡ true) (p : Proving c a m.line outer inner invoke) where
  abbrev sender : List ℕ
  sender = (ciphering c m.line).peer.title

  -- the client's part of the line
  abbrev pending_part : CipheringPeer
  pending_part = record { peer = record { title = sender; up = true; association = pending p.agreed p.key p.client p.challenge }; counters = counters c m.line }

  pending_part_lem : ciphering c m.line ≡ pending_part
  pending_part_lem =
      let up = link_up_of c m s (ap is_none p.pends) in
      ap (λ (b : Bool). record { peer = record { title = sender; up = b; association = held c m.line }; counters = counters c m.line }) up
      ∙ ap (λ (x : Association). record { peer = record { title = sender; up = true; association = x }; counters = counters c m.line }) p.pends

  not_allowed_lem : (StepsBetween (counters c m.line).accepted outer inner → ⊥) → inner_allowed (counters c m.line).accepted outer inner ≡ false
  not_allowed_lem off = go (inner_allowed (counters c m.line).accepted outer inner) refl
    where
      go : (b : Bool) → inner_allowed (counters c m.line).accepted outer inner ≡ b → b ≡ false
      go true e = absurd (off (inner_by_steps.only (counters c m.line).accepted outer inner (omega (arith, p.window.counts)) (omega (arith, p.small)) e))
      go false e = refl

disproved_outcome : (c : CipherClient) (a : Lent) (m : Model) (invoke outer : ℕ)
    → settles (decided p2 (decision (disproved m.line (secrets_of a) c (head_in a) invoke outer)) m)
    ≡ (let number = next_counter (counters c m.line).sent in
    said 13
    (apdu_frame (head_in a) (sealed_envelope (lent_keys (secrets_of a)) m.line.title 0xCF number (action_answer invoke (denied 250))))
    (with_counters c (record { accepted = outer; sent = number }) (associates (Ciphering c) unassociated m.line)) m)
unfolding disproved taken accepting
disproved_outcome Han a m invoke outer = refl

pub wrong_steps_denied : WrongStepsDenied
unfolding longest_received
wrong_steps_denied c a m outer inner invoke s p off =
    let from = (ciphering c m.line).peer.title in
    let k = lent_keys (secrets_of a) in
    let env = sealed_envelope k from 0xCB outer (proof_action c invoke (proof_value k from p.challenge inner)) in
    let long = length_proving_enclosed c k from p.challenge invoke inner outer in
    let window = window_by_steps.passes (counters c m.line).accepted outer p.window in
    let reached = ruled_request m.line a (Ciphering c) env p.received (omega arith) (omega arith) in
    let carries = proof_carried c m.line (secrets_of a) (head_in a) (pending_part_lem c a m outer inner invoke s p) invoke inner outer window (not_allowed_lem c a m outer inner invoke s p off) p.small (omega (arith, p.window.counts)) in
    outcome_ruled a m p.enough s ∙ ap (λ (r : Ruling). settles (decided p2 (decision r) m)) (reached ∙ carries) ∙ disproved_outcome c a m invoke outer
