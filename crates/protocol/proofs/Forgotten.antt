-- What forgets a transfer: `ForgottenAtTheEnd` of specs/InBlocks, proved. What the body leaves of a transfer is kept after every frame that
-- leaves H's association, and only those that end it do not.
use mathlib.Core.Path.{◌≡◌, refl, sym, ap, ◌∙◌}
use mathlib.Core.Bool.{Bool, true, false, cond, false≢true}
use mathlib.Core.Logic.{◌⊎◌, inl, inr, ⊎_elim}
use mathlib.Core.List.{List}
use Prim.Native.Nat.{ℕ, ◌+◌}
use lib.Dec.{eqb}
use Rattle.std.specs.Prelude.{Option, Some, None}
use Rattle.model.specs.declared.Client.{Client}
use Rattle.model.specs.declared.Client.TheVariants.{Verification, Ciphering}
use Rattle.model.specs.declared.CipherClient.TheVariants.{Han}
use Rattle.model.specs.declared.SoundnessTest.TheVariants.{TransferPossible}
use Rattle.model.specs.Names.{same_name}
use Rattle.model.specs.Services.{within, get_service, selective_access, block_transfer}
use Rattle.model.specs.Selecting.{Selection}
use Rattle.model.specs.State.{Association, none, pending, associated, Transfer, idle, running, ended, broken, Line, Body, with_transfer, Model}
use Rattle.model.specs.Soundness.{in_force, has_agreed, takes_blocks, could_ask, allowed, rows_allow, sound}
use Rattle.model.specs.Objects.{Content, simple, rows, record_number, register, device_object, Meaning, known, unknown, meaning, Service, get, action, Inquiry, go_on, Result, granted, begun, denied, Request, ask, attribute_read, method_invoked, after_method, is_last, long_data, Turn, transfer_after, after_read, after_action, answered, continued, turned}
use Rattle.model.specs.Calls.{Lent, Said, Decision, Outcome, answer, serve, decided, kept_by, settles}
use Rattle.model.proofs.ListLaws.{both, by_test}
use Rattle.model.proofs.SoundnessLaws.{sound_passes}
use Rattle.model.proofs.TransferLaws.{Begun, read_begins, begun_kept}
use Rattle.cosem.specs.declared.Asked.{Asked}
use Rattle.cosem.specs.declared.Reading.TheVariants.{Asks}
use Rattle.cosem.specs.declared.Tag.TheVariants.{DedicatedRequest}
use Rattle.cosem.specs.declared.ServiceKind.{ServiceKind}
use Rattle.cosem.specs.declared.ServiceKind.TheVariants.{Action}
use Rattle.cosem.specs.Requests.{read_service, service_in, requested}
use Rattle.protocol.specs.Clients.{agreed_in, selective_in, blocks_in, is_pending, is_associated}
use Rattle.protocol.specs.Rulings.{refusal_of, bytes_of, Ruling, says, asks, decision}
use Rattle.protocol.specs.Decide.{accepted_plain, accepted_ciphered, request_of, proved, disproved, ruled, decide, seal, p2}
use Rattle.protocol.specs.Outcomes.{outcome, apdu_in, SentBy, MaySend, enclosed_get, enclosed_action, replied}
use Rattle.protocol.specs.Lazy.{Enough}
use Rattle.protocol.specs.InBlocks.{has_h, ForgottenAtTheEnd}
use Rattle.protocol.proofs.KindLaws.{kind_of, action_no_get, asked_kind}
use Rattle.protocol.proofs.MayLaws.{may_pending}
use Rattle.protocol.proofs.Claim.{p2_forgets_transfers}
use Rattle.protocol.proofs.Leaves as by
use Rattle.protocol.proofs.Settling.{of_han, allowed_same, kept_same, kept_sound, takes_none, kept_none, run_kept, no_blocks_of_v}
use Rattle.protocol.proofs.Outcomes.{row_lent, one_sender}
use Rattle.protocol.proofs.LinkUp.{outcome_ruled}

-- V asks the body nothing that moves it.

plain_turned : (q : Request) (b : Body) → q.client ≡ Verification → (turned (ask q) b).body ≡ b
unfolding turned
plain_turned q b e = go q.service
  where
    w : Client → Meaning
    w c = meaning c q.name b.store.registers

    -- the device has no method that moves the body
    moved : (x : Bool) (r : Result) → after_action (cond x (known device_object.object) unknown) b r ≡ b
    moved true (granted d) = refl
    moved true (begun t d) = refl
    moved true (denied c) = refl
    moved false r = refl

    go : (v : Service) → (answered q b (w q.client) v).body ≡ b
    go (get a s) = ap (λ (c : Client). after_read c (attribute_read q a s b (w q.client)) b) e
    go (action k v) =
        ap (λ (c : Client). after_action (w c) b (method_invoked q k v (w q.client))) e
        ∙ moved (same_name device_object.name q.name) (method_invoked q k v (w q.client))

-- What H may send.

-- GET is agreed, or it is an ACTION
agreed_or_acts : {k : ServiceKind} {x : Association} → MaySend (Ciphering Han) x (DedicatedRequest k) → (text : List ℕ) (q : Asked) → read_service k text ≡ Some (Asks q)
    → (within get_service (in_force x) ≡ true) ⊎ (kind_of (service_in text q.wanted) ≡ Action)
agreed_or_acts (enclosed_get e) text q r = inl e
agreed_or_acts (enclosed_action e) text q r = inr (asked_kind Action text q r)

-- what was agreed is in force
in_force_lem : {k : ServiceKind} {x : Association} → MaySend (Ciphering Han) x (DedicatedRequest k) → in_force x ≡ agreed_in x
in_force_lem (enclosed_get e) = refl
in_force_lem (enclosed_action e) = refl

-- What is kept, on a line with H's association as it was.

kept_idle : (l : Line) → kept_by l idle ≡ idle
unfolding allowed
kept_idle l = refl

module _ (m : Model) (s : sound m ≡ true) (l : Line) (same : of_han l ≡ of_han m.line) where
  abbrev Kept : Transfer → Type 0
  Kept t = kept_by l t ≡ t

  -- the transfer that was
  same_kept : Kept m.body.transfer
  same_kept = kept_same l m.line m.body.transfer same ∙ kept_sound m s

  -- one that other rows end
  is_allowed : allowed l m.body.transfer ≡ true
  is_allowed =
      allowed_same l m.line m.body.transfer same
      ∙ (both (allowed m.line m.body.transfer) (rows_allow m.body.store m.body.transfer) (sound_passes m s TransferPossible)).0

  broken_kept : (t : Transfer) → allowed l t ≡ true → Kept (broken t)
  unfolding allowed
  broken_kept idle e = refl
  broken_kept (running x k) e = ap (λ (b : Bool). cond b ended idle) (both (takes_blocks l) (could_ask x l) e).0
  broken_kept ended e = ap (λ (b : Bool). cond b ended idle) e

  method_kept : (x : Content) → Kept (after_method x m.body).transfer
  method_kept (simple y) = same_kept
  method_kept rows = broken_kept m.body.transfer is_allowed
  method_kept record_number = same_kept
  method_kept (register r) = same_kept

  action_kept : (w : Meaning) (r : Result) → Kept (after_action w m.body r).transfer
  action_kept unknown r = same_kept
  action_kept (known o) (granted d) = method_kept o.content
  action_kept (known o) (begun t d) = same_kept
  action_kept (known o) (denied c) = same_kept

  -- one that a read begins
  read_kept : (selective blocks : Bool) (r : Result) → Begun selective blocks m.body.store r → has_agreed get_service l ≡ true
      → (selective ≡ true → has_agreed selective_access l ≡ true) → (blocks ≡ true → has_agreed block_transfer l ≡ true) → Kept (transfer_after r)
  read_kept selective blocks (granted d) g e f h = kept_idle l
  read_kept selective blocks (begun t d) g e f h = begun_kept l g e f h
  read_kept selective blocks (denied c) g e f h = kept_idle l

  -- one that goes on
  next_kept : (invoke number : ℕ) → Kept (turned (go_on invoke number) m.body).body.transfer
  unfolding turned
  next_kept i n = go m.body.transfer refl
    where
      go : (t : Transfer) → m.body.transfer ≡ t → Kept (continued i n m.body t).body.transfer
      go idle e = kept_idle l
      go (running x k) e =
          by_test (λ (u : Turn). Kept u.body.transfer) (eqb n k)
          (λ _. run_kept m s x k e l (is_last (k + 1) (long_data x m.body.store)) (k + 1) same) (λ _. kept_idle l)
      go ended e = kept_idle l

  -- a request of H
  module _ {k : ServiceKind} (may : MaySend (Ciphering Han) (of_han m.line) (DedicatedRequest k)) where
    agreed_there : (service : List ℕ) → within service (agreed_in (of_han m.line)) ≡ true → has_agreed service l ≡ true
    agreed_there service e = ap (λ (x : Association). within service (in_force x)) same ∙ ap (within service) (in_force_lem may) ∙ e

    pub ask_kept : (text : List ℕ) (q : Asked) → read_service k text ≡ Some (Asks q) → Kept (turned (request_of m.line (Ciphering Han) text q) m.body).body.transfer
    unfolding turned requested
    ask_kept text q r = go (service_in text q.wanted) refl
      where
        p : Request
        p = requested (Ciphering Han) (selective_in (Ciphering Han) m.line) (blocks_in (Ciphering Han) m.line) text q

        w : Meaning
        w = meaning (Ciphering Han) p.name m.body.store.registers

        gets : (a : ℕ) (y : Selection) → service_in text q.wanted ≡ get a y → has_agreed get_service l ≡ true
        gets a y e =
            ⊎_elim (λ g. ap (λ (x : Association). within get_service (in_force x)) same ∙ g) (λ g. absurd (action_no_get (sym g ∙ ap kind_of e))) (agreed_or_acts may text q r)

        go : (v : Service) → service_in text q.wanted ≡ v → Kept (answered p m.body w v).body.transfer
        go (get a y) e =
            read_kept p.selective p.blocks (attribute_read p a y m.body w) (read_begins p a y m.body w) (gets a y e) (agreed_there selective_access) (agreed_there block_transfer)
        go (action n v) e = action_kept w (method_invoked p n v w)

-- Frame by frame.

pending_not : (x : Association) → is_pending x ≡ true → is_associated x ≡ false
pending_not none e = refl
pending_not (pending a k c d) e = refl
pending_not (associated a k) e = absurd (false≢true e)

module _ (a : Lent) (m : Model) (s : sound m ≡ true) where
  abbrev before : Transfer
  before = m.body.transfer

  -- a sound meter without H has no transfer
  none_kept : (l : Line) → is_associated (of_han m.line) ≡ false → kept_by l before ≡ before
  none_kept l e =
      let idles : before ≡ idle = sym (kept_sound m s) ∙ kept_none m.line before e in
      ap (kept_by l) idles ∙ kept_idle l ∙ sym idles

  abbrev left : Inquiry → Transfer
  left q = (turned q m.body).body.transfer

  -- after the line's answer, where H is associated; and after the body's
  abbrev Settled : Ruling → Type 0
  Settled (says t r l) = is_associated (of_han l) ≡ true → kept_by l before ≡ before
  Settled (asks q w l) = kept_by l (left q) ≡ left q

  settled_leaf : {r : Ruling} → by.Leaf m.line a r → Settled r
  unfolding accepted_plain accepted_ciphered proved disproved requested
  settled_leaf (by.unheard t n) = λ _. same_kept m s m.line refl
  settled_leaf (by.rejects t n first) = λ _. same_kept m s m.line refl
  settled_leaf (by.no_link t from n) = λ _. same_kept m s m.line refl
  settled_leaf (by.goes_up Verification from p) = λ _. same_kept m s _ refl
  settled_leaf (by.goes_up (Ciphering Han) from p) = λ e. absurd (false≢true e)
  settled_leaf (by.goes_down Verification from up) = λ _. same_kept m s _ refl
  settled_leaf (by.goes_down (Ciphering Han) from up) = λ e. absurd (false≢true e)
  settled_leaf (by.excepts t n r x) = λ _. same_kept m s m.line refl
  settled_leaf (by.departs c t) = λ _. same_kept m s m.line refl
  settled_leaf (by.associates_plain proposed t) = λ _. same_kept m s _ refl
  settled_leaf (by.begins Han client key proposed n t) = λ e. absurd (false≢true e)
  settled_leaf (by.releases Verification t) = λ _. same_kept m s _ refl
  settled_leaf (by.releases (Ciphering Han) t) = λ e. absurd (false≢true e)
  settled_leaf (by.serves q t e) =
      let stays = plain_turned (requested Verification (selective_in Verification m.line) (blocks_in Verification m.line) (apdu_in a) q) m.body refl in
      ap (λ (b : Body). kept_by m.line b.transfer) stays ∙ same_kept m s m.line refl ∙ sym (ap (λ (b : Body). b.transfer) stays)
  settled_leaf (by.goes_on i n t b) = absurd (no_blocks_of_v m s b)
  settled_leaf (by.unopened t) = λ _. same_kept m s m.line refl
  settled_leaf (by.drops Han o w) = λ e. absurd (false≢true e)
  settled_leaf (by.excepts_inside t Han n o w x) = λ _. same_kept m s _ refl
  settled_leaf (by.proves Han invoke n o w) = λ _. none_kept _ (pending_not (of_han m.line) (may_pending o.timely.may))
  settled_leaf (by.disproves Han invoke n o w) = λ e. absurd (false≢true e)
  settled_leaf (by.serves_inside Han k {text = text} q o w e) = ask_kept m s _ refl o.timely.may text q e
  settled_leaf (by.goes_on_inside Han k i n o w e b) = next_kept m s _ refl i n

  -- so nothing is settled where H is associated afterwards
  settles_nothing : (r : Ruling) → Settled r → has_h (settles (decided p2 (decision r) m)).next ≡ true → settles (decided p2 (decision r) m) ≡ decided p2 (decision r) m
  settles_nothing (says t r l) k h = ap (λ (u : Transfer). replied (refusal_of t) (bytes_of r) (record { line = l; body = with_transfer u m.body })) (k h)
  settles_nothing (asks q w l) k h =
      let t = turned q m.body in
      ap (λ (u : Transfer). replied t.refusal (seal l w t.bytes) (record { line = l; body = with_transfer u t.body })) k

  nothing_else_lem : Enough a → has_h (outcome a m).next ≡ true → outcome a m ≡ decided p2 (decide m.line a) m
  unfolding decide
  nothing_else_lem enough h =
      let e = outcome_ruled a m enough s in
      e ∙ settles_nothing (ruled m.line a) (settled_leaf (by.leaf m.line a)) (sym (ap (λ (o : Outcome). has_h o.next) e) ∙ h)

  abbrev is_answer : Decision → Bool
  is_answer (answer x) = true
  is_answer (serve q w l) = false

  answer_leaves : (r : Ruling) → Settled r → is_answer (decision r) ≡ true → has_h (settles (decided p2 (decision r) m)).next ≡ true
      → (settles (decided p2 (decision r) m)).next.body.transfer ≡ before
  answer_leaves (says t r l) k e h = k h
  answer_leaves (asks q w l) k e h = absurd (false≢true e)

  stays : (x : Said) → decide m.line a ≡ answer x → has_h (outcome a m).next ≡ true → (outcome a m).next.body.transfer ≡ before
  unfolding decide
  stays x e =
      row_lent a m (λ o. has_h o.next ≡ true → o.next.body.transfer ≡ before) (λ _. refl) (λ _. refl) (λ _. refl)
      (λ _ _. answer_leaves (ruled m.line a) (settled_leaf (by.leaf m.line a)) (ap is_answer e))

  -- V's frames
  module _ (v : SentBy Verification a) where
    abbrev Untouched : Ruling → Type 0
    Untouched (says t r l) = of_han l ≡ of_han m.line
    Untouched (asks q w l) = (of_han l ≡ of_han m.line) × ((turned q m.body).body ≡ m.body)

    untouched : {r : Ruling} → by.Leaf m.line a r → Untouched r
    unfolding accepted_plain accepted_ciphered proved disproved requested
    untouched (by.unheard t n) = refl
    untouched (by.rejects t n first) = refl
    untouched (by.no_link t from n) = refl
    untouched (by.goes_up Verification from p) = refl
    untouched (by.goes_up (Ciphering c) from p) = one_sender a m c v from.sender
    untouched (by.goes_down Verification from up) = refl
    untouched (by.goes_down (Ciphering c) from up) = one_sender a m c v from.sender
    untouched (by.excepts t n r x) = refl
    untouched (by.departs c t) = refl
    untouched (by.associates_plain proposed t) = refl
    untouched (by.begins c client key proposed n t) = one_sender a m c v t.reaches.heard.sender
    untouched (by.releases Verification t) = refl
    untouched (by.releases (Ciphering c) t) = one_sender a m c v t.reaches.heard.sender
    untouched (by.serves q t e) =
        (refl, plain_turned (requested Verification (selective_in Verification m.line) (blocks_in Verification m.line) (apdu_in a) q) m.body refl)
    untouched (by.goes_on i n t b) = absurd (no_blocks_of_v m s b)
    untouched (by.unopened t) = refl
    untouched (by.drops c o w) = one_sender a m c v o.timely.reaches.heard.sender
    untouched (by.excepts_inside t c n o w x) = one_sender a m c v o.timely.reaches.heard.sender
    untouched (by.proves c invoke n o w) = one_sender a m c v o.timely.reaches.heard.sender
    untouched (by.disproves c invoke n o w) = one_sender a m c v o.timely.reaches.heard.sender
    untouched (by.serves_inside c k q o w e) = one_sender a m c v o.timely.reaches.heard.sender
    untouched (by.goes_on_inside c k i n o w e b) = one_sender a m c v o.timely.reaches.heard.sender

    untouched_kept : (r : Ruling) → Untouched r → (settles (decided p2 (decision r) m)).next.body.transfer ≡ before
    untouched_kept (says t r l) e = same_kept m s l e
    untouched_kept (asks q w l) e = ap (λ (b : Body). kept_by l b.transfer) e.1 ∙ same_kept m s l e.0

    of_v_lem : (outcome a m).next.body.transfer ≡ before
    of_v_lem = row_lent a m (λ o. o.next.body.transfer ≡ before) refl refl refl (λ _ _. untouched_kept (ruled m.line a) (untouched (by.leaf m.line a)))

pub forgotten_at_the_end : ForgottenAtTheEnd
forgotten_at_the_end =
    record {
      ended = λ a m s e. p2_forgets_transfers.association a m s (takes_none (outcome a m).next.line e);
      nothing_else = λ a m s enough h. nothing_else_lem a m s enough h;
      stays = λ a m x s e h. stays a m s x e h;
      of_v = λ a m s v. of_v_lem a m s v;
    }
