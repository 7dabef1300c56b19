-- The road that the code goes comes to the first failing test of the list (specs/Road).
use mathlib.Core.Path.{◌≡◌, refl, sym, ap, ◌∙◌}
use mathlib.Core.Bool.{Bool, true, false, cond, not, ◌&&◌, ◌||◌, false≢true}
use mathlib.Core.List.{List, [], ◌∷◌, ◌++◌, map}
use Rattle.std.specs.Prelude.{Result as Outcome, Ok, Err}
use Prim.Native.Nat.{ℕ}
use native.Mathlib.Omega.{arith}
use lib.Dec.{eqb, leb}
use lib.ListN.{length, drop}
use borrow.Author.Tests.{eqb-true, ne_eqb}
use Rattle.std.specs.Prelude.{Option, Some, None}
use Rattle.wire.specs.Reading.{part}
use Rattle.gcm.specs.Gcm.{authentic, ciphered}
use Rattle.model.specs.declared.Client.{Client}
use Rattle.model.specs.declared.Client.TheVariants.{Verification, Ciphering}
use Rattle.model.specs.declared.CipherClient.{CipherClient}
use Rattle.model.specs.declared.SoundnessTest.TheVariants.{RegisterList, ColumnList, PeriodPermitted, ClockValid, RowClocksValid, RowCount, RowCells, AssociationKind, AssociationOnLink, AgreedServices}
use Rattle.model.specs.Limits.{longest_sent, data_room, max_rows}
use Rattle.model.specs.Names.{every}
use Rattle.model.specs.Clocks.{valid_clock}
use Rattle.model.specs.Periods.{permitted_period}
use Rattle.model.specs.Selecting.{Selection, all, selected, Picking, whole, Described, range_selector, entry_selector, described_range, described_entries, described, is_range_descriptor, is_entry_descriptor, from_clock, to_clock, good_range, from_entry, to_entry, from_column, to_column, picking, faulty, numbered, dated}
use Rattle.model.specs.State.{Association, Entry, profile, Transfer, idle, running, ended, runs, Line, Body, Model}
use Rattle.model.specs.Soundness.{accepted_registers, accepted_columns, kinds_known, links_stand, services_offered, soundness_tests}
use Rattle.model.specs.Objects.{Content, simple, rows, record_number, register, Object, Meaning, known, unknown, meaning, serves, Service, get, action, Request, Inquiry, Parameter, these, wrong, takes_selector, picked_by, attribute_data, entries, entries_wrong, rows_between, last_entry, rows_within, selected_rows, begins, fitting, shown, attribute_read, good_parameter, method_invoked, Result, granted, begun, denied}
use Rattle.model.specs.Calls.{Lent}
use Rattle.hdlc.specs.declared.Head.{Head}
use Rattle.hdlc.specs.declared.Frame.{Frame}
use Rattle.hdlc.specs.declared.Frame.TheVariants.{Unanswered, Rejected, LinkUp, LinkDown, Apdu}
use Rattle.hdlc.specs.declared.FrameTest.{FrameTest}
use Rattle.hdlc.specs.Tests.{fails as fails_frame, meter_side, frame_tests, first_failing as frame_failing, FirstOf as FirstOfFrame}
use Rattle.hdlc.specs.Reading.{read_frame}
use Rattle.hdlc.proofs.TestLaws.{passes_here, none_fails, fails_first}
use Rattle.hdlc.proofs.ReadingLaws.{Told, read_told}
use Rattle.cosem.specs.declared.Tag.{Tag}
use Rattle.cosem.specs.declared.Tag.TheVariants.{Aarq, Rlrq, PlainRequest, GlobalAction, DedicatedRequest, Unknown}
use Rattle.cosem.specs.declared.ServiceKind.{ServiceKind}
use Rattle.cosem.specs.declared.ServiceKind.TheVariants.{Get, Set, Action}
use Rattle.cosem.specs.declared.Reading.{Reading}
use Rattle.cosem.specs.declared.Reading.TheVariants.{Asks, GoesOn}
use Rattle.cosem.specs.Tags.{dedicated_tag, tag_in, is_release}
use Rattle.cosem.specs.Requests.{read_action, read_service, requested}
use Rattle.acse.specs.Aarq.{read_aarq}
use Rattle.counters.specs.Window.{in_window}
use Rattle.material.specs.Material.{Keys, nonce, associated_data}
use Rattle.envelope.specs.declared.Shape.{Shape}
use Rattle.envelope.specs.Opening.{shape_of, Opened, fails as stays, opens, opened_by, opened}
use Rattle.protocol.specs.declared.Secrets.{Secrets}
use Rattle.protocol.specs.Clients.{ciphering, peer, counters, agreed_in, selective_in, blocks_in, lent_keys, dedicated_keys, is_pending, is_associated, permitted, bit_agreed, is_unknown}
use Rattle.protocol.specs.Decide.{is_challenge, proves_itself, secrets_of}
use Rattle.call_tests.specs.declared.LineTest.TheVariants.{LinkUpWithInformation, P5HoldsV, LinkDownWhileDown, DataWhileDown, UnknownTag, TagNotPermitted, BitNotAgreed, AarqNotAccepted, EnvelopeShape, EnvelopeTag, CounterWindow, MalformedApdu, NotTheChallenge, WrongProof}
use Rattle.call_tests.specs.declared.BodyTest.{BodyTest}
use Rattle.call_tests.specs.declared.BodyTest.TheVariants.{NameUnknown, ClassWrong, NotServed, ParameterShape, EntriesWrong, RangeWrong, AnswerTooLong, TransferEnded, NoTransfer, BlockNumber}
use Rattle.call_tests.specs.declared.CallTest.TheVariants.{Lent as OfLent, Sound as OfState, Frame as OfFrame, Line as OfLine, Body as OfBody}
use Rattle.call_tests.specs.Finding.{Finding}
use Rattle.std.specs.Prelude.{Ok, Err}
use Rattle.call_tests.specs.Tests.{lent_tests, line_tests, body_tests, on_apdu, on_aarq, on_opened, on_envelope, on_shaped, malformed_in, on_answer, is_misshapen, forged, is_malformed, on_asks, on_inquiry, on_request, aarq_accepted, line_fails, is_nothing, on_object, is_served, is_shaped, belongs, selection_shaped, bad_entries, bad_range, on_selector, too_long, answers_too_long, is_ended, is_idle, on_running, inquiry_fails, call_fails, first_failing, found}
use Rattle.call_tests.specs.Road.{fault, link_up_finds, link_down_finds, selector_wrong, code_test, result_finds, service_finds, body_finds, number_finds, asked_finds, answer_finds, opened_finds, shape_finds, envelope_finds, challenge_finds, request_finds, aarq_finds, release_finds, by_tag_finds, tested_finds, carried_finds, heard_finds, or_else, lent_finds, state_finds, unsound, rows_finds, body_state_finds, line_state_finds, transfer_finds, road_finds}
use Rattle.call_tests.proofs.TestLaws.{in_stretches, else_cond, else_three, else_none}

-- a test of the body fails
abbrev body_fault : BodyTest → Finding
body_fault t = Err (OfBody t)

-- The body.

-- a read that rows were picked for begins a transfer where it is one of attribute 2 of the profile
pub begins_runs : (x : Content) (a : ℕ) (p : Picking) → runs (begins x a (picking p)) ≡ takes_selector x a
begins_runs (simple x) a p = refl
begins_runs rows a p = go (eqb a 2)
  where
    go : (y : Bool) → runs (cond y (running (profile p) 1) idle) ≡ y
    go true = refl
    go false = refl
begins_runs record_number a p = refl
begins_runs (register r) a p = refl

module _ (q : Request) (b : Body) where
  -- what the list comes to for a request whose name means w and that wants v
  abbrev body_stretch : Meaning → Service → Finding
  body_stretch w v =
      cond (is_nothing w) (body_fault NameUnknown)
      (cond (on_object w (λ o. not (eqb q.class o.class))) (body_fault ClassWrong)
      (cond (on_object w (λ o. not (is_served o v))) (body_fault NotServed)
      (cond (on_object w (λ o. not (is_shaped q o v))) (body_fault ParameterShape)
      (cond (on_selector entry_selector v (bad_entries (length b.store.rows))) (body_fault EntriesWrong)
      (cond (on_selector range_selector v bad_range) (body_fault RangeWrong)
      (cond (on_object w (λ o. answers_too_long q o b v)) (body_fault AnswerTooLong) (Ok tt)))))))

  module _ (o : Object) (attribute : ℕ) where
    -- what the read comes to that is described so
    abbrev shown_by : Described → Result
    shown_by d = shown q.blocks (begins o.content attribute d) o.content q.name attribute b (picked_by d b.store.rows)

    -- rows were picked: they fit, they go out in blocks, or neither
    these_fit : (t : BodyTest) (p : Picking) (rs : List Entry)
        → cond (too_long q o attribute b (these rs)) (body_fault AnswerTooLong) (Ok tt)
        ≡ result_finds t (fitting q.blocks (begins o.content attribute (picking p)) (attribute_data o.content q.name attribute rs b))
    unfolding fitting code_test
    these_fit t p rs = go (leb (length bytes) (data_room longest_sent)) q.blocks (takes_selector o.content attribute) (runs begun_by) (sym (begins_runs o.content attribute p))
      where
        bytes : List ℕ
        bytes = attribute_data o.content q.name attribute rs b

        begun_by : Transfer
        begun_by = begins o.content attribute (picking p)

        go : (x y z r : Bool) → z ≡ r
            → cond (not x && not (z && y)) (body_fault AnswerTooLong) (Ok tt)
            ≡ result_finds t (cond x (granted bytes) (cond (y && r) (begun begun_by bytes) (denied 250)))
        go true y z r e = refl
        go false true true true e = refl
        go false true false false e = refl
        go false true true false e = absurd (false≢true (sym e))
        go false true false true e = absurd (false≢true e)
        go false false true r e = refl
        go false false false r e = refl

    -- a range that has its shape, and entries that have theirs
    range_road : (v : List ℕ)
        → cond (bad_range v) (body_fault RangeWrong) (cond (too_long q o attribute b (picked_by (described_range (from_clock v) (to_clock v)) b.store.rows)) (body_fault AnswerTooLong) (Ok tt))
        ≡ result_finds RangeWrong (shown_by (described_range (from_clock v) (to_clock v)))
    unfolding code_test described_range
    range_road v = go (good_range (from_clock v) (to_clock v))
      where
        go : (g : Bool)
            → cond (not g) (body_fault RangeWrong) (cond (too_long q o attribute b (picked_by (cond g (picking (dated (from_clock v) (to_clock v))) (faulty 13)) b.store.rows)) (body_fault AnswerTooLong) (Ok tt))
            ≡ result_finds RangeWrong (shown_by (cond g (picking (dated (from_clock v) (to_clock v))) (faulty 13)))
        go true = these_fit RangeWrong (dated (from_clock v) (to_clock v)) (rows_within (from_clock v) (to_clock v) b.store.rows)
        go false = refl

    numbered_road : (p : Picking) (rs : List Entry) (w : Bool)
        → cond w (body_fault EntriesWrong) (cond (too_long q o attribute b (cond w (wrong 13) (these rs))) (body_fault AnswerTooLong) (Ok tt))
        ≡ result_finds EntriesWrong (shown q.blocks (begins o.content attribute (picking p)) o.content q.name attribute b (cond w (wrong 13) (these rs)))
    unfolding code_test
    numbered_road p rs true = refl
    numbered_road p rs false = these_fit EntriesWrong p rs

    entries_road : (v : List ℕ)
        → cond (bad_entries (length b.store.rows) v) (body_fault EntriesWrong) (cond (too_long q o attribute b (picked_by (described_entries v) b.store.rows)) (body_fault AnswerTooLong) (Ok tt))
        ≡ result_finds EntriesWrong (shown_by (described_entries v))
    unfolding code_test described_entries entries
    entries_road v = go (eqb (from_column v) 1 && eqb (to_column v) 0)
      where
        go : (g : Bool)
            → cond (not g || entries_wrong (from_entry v) (to_entry v) (length b.store.rows)) (body_fault EntriesWrong)
            (cond (too_long q o attribute b (picked_by (cond g (picking (numbered (from_entry v) (to_entry v))) (faulty 13)) b.store.rows)) (body_fault AnswerTooLong) (Ok tt))
            ≡ result_finds EntriesWrong (shown_by (cond g (picking (numbered (from_entry v) (to_entry v))) (faulty 13)))
        go false = refl
        go true =
            numbered_road (numbered (from_entry v) (to_entry v)) (rows_between (from_entry v) (last_entry (to_entry v) (length b.store.rows)) b.store.rows)
            (entries_wrong (from_entry v) (to_entry v) (length b.store.rows))

    -- the tests from the parameter on, of a selector's value: x and y say which selector it is, u and w whether the value has its shape
    selected_road : (v : List ℕ) (belonging x y u w : Bool) → (x ≡ true → y ≡ false)
        → cond (not (belonging && ((x && u) || (y && w)))) (body_fault ParameterShape)
        (cond (y && bad_entries (length b.store.rows) v) (body_fault EntriesWrong)
        (cond (x && bad_range v) (body_fault RangeWrong)
        (cond (too_long q o attribute b (picked_by (cond (belonging && x && u) (described_range (from_clock v) (to_clock v)) (cond (belonging && y && w) (described_entries v) (faulty 12))) b.store.rows)) (body_fault AnswerTooLong) (Ok tt))))
        ≡ result_finds (cond x RangeWrong EntriesWrong) (shown_by (cond (belonging && x && u) (described_range (from_clock v) (to_clock v)) (cond (belonging && y && w) (described_entries v) (faulty 12))))
    unfolding code_test
    selected_road v false x y u w n = refl
    selected_road v true true true u w n = absurd (false≢true (sym (n refl)))
    selected_road v true true false false w n = refl
    selected_road v true true false true w n = range_road v
    selected_road v true false true u false n = refl
    selected_road v true false true u true n = entries_road v
    selected_road v true false false u w n = refl

    -- the tests from the parameter on
    selection_road : (s : Selection)
        → cond (not (selection_shaped (belongs q o attribute) s)) (body_fault ParameterShape)
        (cond (on_selector entry_selector (get attribute s) (bad_entries (length b.store.rows))) (body_fault EntriesWrong)
        (cond (on_selector range_selector (get attribute s) bad_range) (body_fault RangeWrong)
        (cond (too_long q o attribute b (selected_rows (belongs q o attribute) s b.store.rows)) (body_fault AnswerTooLong) (Ok tt))))
        ≡ result_finds (selector_wrong s) (shown_by (described (belongs q o attribute) s))
    unfolding described
    selection_road all = these_fit EntriesWrong whole b.store.rows
    selection_road (selected k v) =
        selected_road v (belongs q o attribute) (eqb k range_selector) (eqb k entry_selector) (is_range_descriptor v) (is_entry_descriptor v)
        (λ e. let n = eqb-true k range_selector e in ne_eqb k entry_selector (λ r. omega arith))

  get_road : (w : Meaning) (attribute : ℕ) (s : Selection) → body_stretch w (get attribute s) ≡ result_finds (selector_wrong s) (attribute_read q attribute s b w)
  unfolding attribute_read code_test
  get_road unknown attribute s = refl
  get_road (known o) attribute s = go (eqb q.class o.class) (serves o.attributes attribute)
    where
      go : (x y : Bool)
          → cond (not x) (body_fault ClassWrong)
          (cond (not y) (body_fault NotServed)
          (cond (not (selection_shaped (belongs q o attribute) s)) (body_fault ParameterShape)
          (cond (on_selector entry_selector (get attribute s) (bad_entries (length b.store.rows))) (body_fault EntriesWrong)
          (cond (on_selector range_selector (get attribute s) bad_range) (body_fault RangeWrong)
          (cond (too_long q o attribute b (selected_rows (belongs q o attribute) s b.store.rows)) (body_fault AnswerTooLong) (Ok tt))))))
          ≡ result_finds (selector_wrong s) (cond (not x) (denied 9) (cond (not y) (denied 3) (shown_by o attribute (described (belongs q o attribute) s))))
      go false y = refl
      go true false = refl
      go true true = selection_road o attribute s

  action_road : (w : Meaning) (method : ℕ) (v : Parameter) → body_stretch w (action method v) ≡ result_finds EntriesWrong (method_invoked q method v w)
  unfolding method_invoked code_test
  action_road unknown method v = refl
  action_road (known o) method v = go (eqb q.class o.class) (serves o.methods method) (good_parameter v)
    where
      go : (x y z : Bool)
          → cond (not x) (body_fault ClassWrong) (cond (not y) (body_fault NotServed) (cond (not z) (body_fault ParameterShape) (Ok tt)))
          ≡ result_finds EntriesWrong (cond (not x) (denied 9) (cond (not y) (denied 3) (cond z (granted []) (denied 12))))
      go false y z = refl
      go true false z = refl
      go true true false = refl
      go true true true = refl

  service_road : (w : Meaning) (v : Service) → body_stretch w v ≡ service_finds q b w v
  service_road w (get attribute s) = get_road w attribute s
  service_road w (action method v) = action_road w method v

  pub body_road : body_stretch (meaning q.client q.name b.store.registers) q.service ≡ body_finds b q
  unfolding body_finds
  body_road = service_road (meaning q.client q.name b.store.registers) q.service

-- A numbered request.

-- the tests of the body, by the transfer
pub number_road : (n : ℕ) (t : Transfer)
    → cond (is_ended t) (body_fault TransferEnded) (cond (is_idle t) (body_fault NoTransfer) (cond (on_running t (λ k. not (eqb n k))) (body_fault BlockNumber) (Ok tt)))
    ≡ number_finds n t
number_road n idle = refl
number_road n ended = refl
number_road n (running x k) = go (eqb n k)
  where
    go : (y : Bool) → cond (not y) (body_fault BlockNumber) (Ok tt) ≡ cond y (Ok tt) (body_fault BlockNumber)
    go true = refl
    go false = refl

-- and by the bit; the tests that are not about it pass
bit_road : (n : ℕ) (t : Transfer) (y : Bool)
    → or_else (cond (not y) (fault MalformedApdu) (Ok tt))
    (cond (y && false) (body_fault NameUnknown)
    (cond (y && false) (body_fault ClassWrong)
    (cond (y && false) (body_fault NotServed)
    (cond (y && false) (body_fault ParameterShape)
    (cond (y && false) (body_fault EntriesWrong)
    (cond (y && false) (body_fault RangeWrong)
    (cond (y && false) (body_fault AnswerTooLong)
    (cond (y && is_ended t) (body_fault TransferEnded)
    (cond (y && is_idle t) (body_fault NoTransfer)
    (cond (y && on_running t (λ k. not (eqb n k))) (body_fault BlockNumber) (Ok tt)))))))))))
    ≡ cond y (number_finds n t) (fault MalformedApdu)
bit_road n t true = number_road n t
bit_road n t false = refl

-- Envelopes.

module _ (l : Line) (b : Body) (a : Secrets) where
  -- GCM tag and counter; what stands inside is looked at where it opens
  opened_road : (accepted : ℕ) (rest : Opened → Finding) (inside : (counter : ℕ) → (text : List ℕ) → Finding)
      → ((counter : ℕ) (text : List ℕ) → rest (opens counter text) ≡ inside counter text)
      → (right : Bool) (counter : ℕ) (text : List ℕ)
      → cond (not right) (fault EnvelopeTag) (cond (not (in_window accepted counter)) (fault CounterWindow) (rest (cond right (opens counter text) stays)))
      ≡ opened_finds accepted (cond right (opens counter text) stays) inside
  opened_road accepted rest inside same false counter text = refl
  opened_road accepted rest inside same true counter text = go (in_window accepted counter)
    where
      go : (w : Bool) → cond (not w) (fault CounterWindow) (rest (opens counter text)) ≡ cond w (inside counter text) (fault CounterWindow)
      go true = same counter text
      go false = refl

  -- and the shape before them
  envelope_road : (c : CipherClient) (k : Keys) (tag : ℕ) (s : List ℕ) (rest : Opened → Finding) (inside : (counter : ℕ) → (text : List ℕ) → Finding)
      → ((counter : ℕ) (text : List ℕ) → rest (opens counter text) ≡ inside counter text)
      → cond (is_misshapen (shape_of tag s)) (fault EnvelopeShape)
      (cond (on_shaped (shape_of tag s) (forged k (ciphering c l).peer.title s)) (fault EnvelopeTag)
      (cond (on_shaped (shape_of tag s) (λ counter from to. not (in_window (counters c l).accepted counter))) (fault CounterWindow)
      (rest (opened k (ciphering c l).peer.title tag s))))
      ≡ envelope_finds l c k tag s inside
  unfolding envelope_finds opened opened_by
  envelope_road c k tag s rest inside same = go (shape_of tag s)
    where
      title : List ℕ
      title = (ciphering c l).peer.title

      go : (x : Option Shape)
          → cond (is_misshapen x) (fault EnvelopeShape)
          (cond (on_shaped x (forged k title s)) (fault EnvelopeTag)
          (cond (on_shaped x (λ counter from to. not (in_window (counters c l).accepted counter))) (fault CounterWindow)
          (rest (opened_by k title tag s x))))
          ≡ shape_finds x (opened_finds (counters c l).accepted (opened_by k title tag s x) inside)
      go None = refl
      go (Some x) =
          opened_road (counters c l).accepted rest inside same (authentic k.key (nonce title x.counter) (associated_data k) (part x.text x.tag s) (drop x.tag s)) x.counter
          (ciphered k.key (nonce title x.counter) (part x.text x.tag s))

  -- By the tag: what the rest of the line's tests and those of the body come to.

  -- the tests of the line after the tag's own, of a client's APDU with this tag
  abbrev tag_stretch : Client → List ℕ → Tag → Finding
  tag_stretch c s t =
      cond (on_aarq t (not (aarq_accepted l a c s (read_aarq s c (peer c l).title)))) (fault AarqNotAccepted)
      (cond (on_envelope l a c t (λ d k tag. is_misshapen (shape_of tag s))) (fault EnvelopeShape)
      (cond (on_envelope l a c t (λ d k tag. on_shaped (shape_of tag s) (forged k (ciphering d l).peer.title s))) (fault EnvelopeTag)
      (cond (on_envelope l a c t (λ d k tag. on_shaped (shape_of tag s) (λ counter from to. not (in_window (counters d l).accepted counter)))) (fault CounterWindow)
      (cond (malformed_in l a c s t) (fault MalformedApdu)
      (cond (on_answer l a c s t (λ d counter text q. not (is_challenge d text q))) (fault NotTheChallenge)
      (cond (on_answer l a c s t (λ d counter text q. not (proves_itself l a d counter text q))) (fault WrongProof) (Ok tt)))))))

  -- the tests of the body, where the call is about a request
  abbrev request_stretch : ((Inquiry → Bool) → Bool) → Finding
  request_stretch on =
      cond (on (λ q. inquiry_fails q b NameUnknown)) (body_fault NameUnknown)
      (cond (on (λ q. inquiry_fails q b ClassWrong)) (body_fault ClassWrong)
      (cond (on (λ q. inquiry_fails q b NotServed)) (body_fault NotServed)
      (cond (on (λ q. inquiry_fails q b ParameterShape)) (body_fault ParameterShape)
      (cond (on (λ q. inquiry_fails q b EntriesWrong)) (body_fault EntriesWrong)
      (cond (on (λ q. inquiry_fails q b RangeWrong)) (body_fault RangeWrong)
      (cond (on (λ q. inquiry_fails q b AnswerTooLong)) (body_fault AnswerTooLong)
      (cond (on (λ q. inquiry_fails q b TransferEnded)) (body_fault TransferEnded)
      (cond (on (λ q. inquiry_fails q b NoTransfer)) (body_fault NoTransfer)
      (cond (on (λ q. inquiry_fails q b BlockNumber)) (body_fault BlockNumber) (Ok tt))))))))))

  aarq_road : (c : Client) (s : List ℕ) → cond (not (aarq_accepted l a c s (read_aarq s c (peer c l).title))) (fault AarqNotAccepted) (Ok tt) ≡ aarq_finds l a c s
  unfolding aarq_finds
  aarq_road c s = go (aarq_accepted l a c s (read_aarq s c (peer c l).title))
    where
      go : (x : Bool) → cond (not x) (fault AarqNotAccepted) (Ok tt) ≡ cond x (Ok tt) (fault AarqNotAccepted)
      go true = refl
      go false = refl

  release_road : (s : List ℕ) → cond (not (is_release s)) (fault MalformedApdu) (Ok tt) ≡ release_finds s
  unfolding release_finds
  release_road s = go (is_release s)
    where
      go : (x : Bool) → cond (not x) (fault MalformedApdu) (Ok tt) ≡ cond x (Ok tt) (fault MalformedApdu)
      go true = refl
      go false = refl

  asked_road : (c : Client) (text : List ℕ) (r : Option Reading)
      → or_else (cond (is_malformed (blocks_in c l) r) (fault MalformedApdu) (Ok tt)) (request_stretch (on_inquiry l c text r)) ≡ asked_finds l b c text r
  asked_road c text None = refl
  asked_road c text (Some (Asks q)) = body_road (requested c (selective_in c l) (blocks_in c l) text q) b
  asked_road c text (Some (GoesOn i n)) = bit_road n b.transfer (blocks_in c l)

  answer_road : (c : CipherClient) (counter : ℕ) (text : List ℕ) (r : Option Reading)
      → cond (is_malformed false r) (fault MalformedApdu)
      (cond (on_asks r (λ q. not (is_challenge c text q))) (fault NotTheChallenge) (cond (on_asks r (λ q. not (proves_itself l a c counter text q))) (fault WrongProof) (Ok tt)))
      ≡ answer_finds l a c counter text r
  answer_road c counter text None = refl
  answer_road c counter text (Some (GoesOn i n)) = refl
  answer_road c counter text (Some (Asks q)) = go (is_challenge c text q) (proves_itself l a c counter text q)
    where
      go : (x y : Bool) → cond (not x) (fault NotTheChallenge) (cond (not y) (fault WrongProof) (Ok tt)) ≡ cond x (cond y (Ok tt) (fault WrongProof)) (fault NotTheChallenge)
      go true true = refl
      go true false = refl
      go false y = refl

  challenge_road : (c : CipherClient) (s : List ℕ) → or_else (tag_stretch (Ciphering c) s GlobalAction) (Ok tt) ≡ challenge_finds l a s c
  unfolding challenge_finds
  challenge_road c s =
      else_none (tag_stretch (Ciphering c) s GlobalAction)
      ∙ envelope_road c (lent_keys a) 0xCB s
      (λ o.
      cond (on_opened o (λ counter text. is_malformed false (read_action text))) (fault MalformedApdu)
      (cond (on_opened o (λ counter text. on_asks (read_action text) (λ q. not (is_challenge c text q)))) (fault NotTheChallenge)
      (cond (on_opened o (λ counter text. on_asks (read_action text) (λ q. not (proves_itself l a c counter text q)))) (fault WrongProof) (Ok tt))))
      (λ counter text. answer_finds l a c counter text (read_action text))
      (λ counter text. answer_road c counter text (read_action text))

  request_road : (c : CipherClient) (s : List ℕ) (k : ServiceKind)
      → or_else (tag_stretch (Ciphering c) s (DedicatedRequest k)) (request_stretch (on_request l a (Ciphering c) s (DedicatedRequest k))) ≡ request_finds l b a.ak k s c
  unfolding request_finds
  request_road c s k =
      let keys = dedicated_keys a.ak c l in
      let shape = shape_of (dedicated_tag k) s in
      let text : Opened = opened keys (ciphering c l).peer.title (dedicated_tag k) s in
      else_three (is_misshapen shape) (on_shaped shape (forged keys (ciphering c l).peer.title s)) (on_shaped shape (λ n i j. not (in_window (counters c l).accepted n)))
      (OfLine EnvelopeShape) (OfLine EnvelopeTag) (OfLine CounterWindow)
      (cond (on_opened text (λ n x. is_malformed (blocks_in (Ciphering c) l) (read_service k x))) (fault MalformedApdu) (Ok tt)) (request_stretch (on_request l a (Ciphering c) s (DedicatedRequest k)))
      ∙ envelope_road c keys (dedicated_tag k) s
      (λ o.
      or_else (cond (on_opened o (λ n x. is_malformed (blocks_in (Ciphering c) l) (read_service k x))) (fault MalformedApdu) (Ok tt))
      (request_stretch (λ g. on_opened o (λ n x. on_inquiry l (Ciphering c) x (read_service k x) g))))
      (λ n x. asked_finds l b (Ciphering c) x (read_service k x))
      (λ n x. asked_road (Ciphering c) x (read_service k x))

  -- no client that does not cipher may send an envelope, and none an unknown tag
  never : (x : Bool) → x && false ≡ true → ⊥
  never true e = false≢true e
  never false e = false≢true e

  enclosed_never : (x : Association) (k : ServiceKind) → permitted Verification x (DedicatedRequest k) ≡ true → ⊥
  enclosed_never x Get e = never (is_associated x) e
  enclosed_never x Set e = never (is_associated x) e
  enclosed_never x Action e = never (is_associated x) e

  tag_road : (c : Client) (s : List ℕ) (t : Tag) → permitted c (peer c l).association t ≡ true
      → or_else (tag_stretch c s t) (request_stretch (on_request l a c s t)) ≡ by_tag_finds l b a c s t
  tag_road Verification s Aarq p = else_none _ ∙ aarq_road Verification s
  tag_road (Ciphering c) s Aarq p = else_none _ ∙ aarq_road (Ciphering c) s
  tag_road Verification s Rlrq p = else_none _ ∙ release_road s
  tag_road (Ciphering c) s Rlrq p = else_none _ ∙ release_road s
  tag_road Verification s (PlainRequest k) p = asked_road Verification s (read_service k s)
  tag_road (Ciphering c) s (PlainRequest k) p = asked_road (Ciphering c) s (read_service k s)
  tag_road Verification s GlobalAction p = absurd (never (is_pending l.verification.association) p)
  tag_road (Ciphering c) s GlobalAction p = challenge_road c s
  tag_road Verification s (DedicatedRequest k) p = absurd (enclosed_never l.verification.association k p)
  tag_road (Ciphering c) s (DedicatedRequest k) p = request_road c s k
  tag_road c s Unknown p = absurd (false≢true p)

  -- Frames that are read.

  -- the tests of the line, of a frame that was read as x, and those of the body
  abbrev rest_of : List ℕ → Frame → Finding
  rest_of f x =
      or_else
      (cond (line_fails l a f x LinkUpWithInformation) (fault LinkUpWithInformation)
      (cond (line_fails l a f x P5HoldsV) (fault P5HoldsV)
      (cond (line_fails l a f x LinkDownWhileDown) (fault LinkDownWhileDown)
      (cond (line_fails l a f x DataWhileDown) (fault DataWhileDown)
      (cond (line_fails l a f x UnknownTag) (fault UnknownTag)
      (cond (line_fails l a f x TagNotPermitted) (fault TagNotPermitted)
      (cond (line_fails l a f x BitNotAgreed) (fault BitNotAgreed)
      (cond (line_fails l a f x AarqNotAccepted) (fault AarqNotAccepted)
      (cond (line_fails l a f x EnvelopeShape) (fault EnvelopeShape)
      (cond (line_fails l a f x EnvelopeTag) (fault EnvelopeTag)
      (cond (line_fails l a f x CounterWindow) (fault CounterWindow)
      (cond (line_fails l a f x MalformedApdu) (fault MalformedApdu)
      (cond (line_fails l a f x NotTheChallenge) (fault NotTheChallenge)
      (cond (line_fails l a f x WrongProof) (fault WrongProof) (Ok tt)))))))))))))))
      (request_stretch (λ g. on_apdu f x (λ c s. on_request l a c s (tag_in s) g)))

  up_road : (f : List ℕ) (c : Client) (h : Head) (information : Bool) → rest_of f (LinkUp c h information) ≡ link_up_finds l c information
  unfolding link_up_finds
  up_road f c h true = refl
  up_road f c h false = else_none _

  down_road : (f : List ℕ) (c : Client) (h : Head) → rest_of f (LinkDown c h) ≡ link_down_finds l c
  unfolding link_down_finds
  down_road f c h = go (peer c l).up
    where
      go : (x : Bool) → or_else (cond (not x) (fault LinkDownWhileDown) (Ok tt)) (Ok tt) ≡ cond x (Ok tt) (fault LinkDownWhileDown)
      go true = refl
      go false = refl

  apdu_road : (f : List ℕ) (c : Client) (h : Head) (from to : ℕ) → rest_of f (Apdu c h from to) ≡ carried_finds l b a c (part from to f)
  unfolding carried_finds tested_finds
  apdu_road f c h from to = go (part from to f)
    where
      tested : (s : List ℕ) (t : Tag) (x : Bool) → permitted c (peer c l).association t ≡ x → (y : Bool)
          → cond (not x) (fault TagNotPermitted) (cond (not y) (fault BitNotAgreed) (or_else (tag_stretch c s t) (request_stretch (on_request l a c s t))))
          ≡ cond (not x) (fault TagNotPermitted) (cond (not y) (fault BitNotAgreed) (by_tag_finds l b a c s t))
      tested s t false e y = refl
      tested s t true e false = refl
      tested s t true e true = tag_road c s t e

      linked : (x : Bool) (r : Finding) → cond (not x) (fault DataWhileDown) r ≡ cond x r (fault DataWhileDown)
      linked true r = refl
      linked false r = refl

      go : (s : List ℕ)
          → or_else
          (cond (not (peer c l).up) (fault DataWhileDown)
          (cond (is_unknown (tag_in s)) (fault UnknownTag)
          (cond (not (permitted c (peer c l).association (tag_in s))) (fault TagNotPermitted)
          (cond (not (bit_agreed (agreed_in (peer c l).association) (tag_in s))) (fault BitNotAgreed) (tag_stretch c s (tag_in s))))))
          (request_stretch (on_request l a c s (tag_in s)))
          ≡ cond (peer c l).up
          (cond (is_unknown (tag_in s)) (fault UnknownTag)
          (cond (not (permitted c (peer c l).association (tag_in s))) (fault TagNotPermitted)
          (cond (not (bit_agreed (agreed_in (peer c l).association) (tag_in s))) (fault BitNotAgreed) (by_tag_finds l b a c s (tag_in s)))))
          (fault DataWhileDown)
      go s =
          let may = permitted c (peer c l).association (tag_in s) in
          let agreed = bit_agreed (agreed_in (peer c l).association) (tag_in s) in
          let body = request_stretch (on_request l a c s (tag_in s)) in
          let tags =
          else_three (is_unknown (tag_in s)) (not may) (not agreed) (OfLine UnknownTag) (OfLine TagNotPermitted) (OfLine BitNotAgreed) (tag_stretch c s (tag_in s)) body
          ∙ ap (λ r. cond (is_unknown (tag_in s)) (fault UnknownTag) r) (tested s (tag_in s) may refl agreed)
          in
          else_cond (not (peer c l).up) (OfLine DataWhileDown)
          (cond (is_unknown (tag_in s)) (fault UnknownTag) (cond (not may) (fault TagNotPermitted) (cond (not agreed) (fault BitNotAgreed) (tag_stretch c s (tag_in s))))) body
          ∙ ap (λ r. cond (not (peer c l).up) (fault DataWhileDown) r) tags
          ∙ linked (peer c l).up (cond (is_unknown (tag_in s)) (fault UnknownTag) (cond (not may) (fault TagNotPermitted) (cond (not agreed) (fault BitNotAgreed) (by_tag_finds l b a c s (tag_in s)))))

-- Calls.

-- a finding of the frame's own tests
abbrev of_frame : Outcome (Unit {0}) FrameTest → Finding
of_frame (Err t) = Err (OfFrame t)
of_frame (Ok done) = Ok tt

module _ (m : Model) (a : Lent) where
  frame_stretch : (ts : List FrameTest) → first_failing (call_fails m a) (map OfFrame ts) ≡ of_frame (frame_failing meter_side ts a.received)
  unfolding first_failing frame_failing
  frame_stretch [] = refl
  frame_stretch (t ∷ ts) = by_cond (fails_frame meter_side t a.received) (frame_stretch ts)
    where
      by_cond : (x : Bool) → first_failing (call_fails m a) (map OfFrame ts) ≡ of_frame (frame_failing meter_side ts a.received)
          → cond x (Err (OfFrame t)) (first_failing (call_fails m a) (map OfFrame ts)) ≡ of_frame (cond x (Err t) (frame_failing meter_side ts a.received))
      by_cond true e = refl
      by_cond false e = e

  frame_fails : (t : FrameTest) → FirstOfFrame meter_side frame_tests a.received t → frame_failing meter_side frame_tests a.received ≡ Err t
  frame_fails t n =
      ap (λ ts. frame_failing meter_side ts a.received) n.order
      ∙ passes_here meter_side a.received n.before (t ∷ n.after) (none_fails meter_side a.received n.passed)
      ∙ fails_first meter_side a.received t n.after n.failed

  abbrev rest : Frame → Finding
  rest x = rest_of m.line m.body (secrets_of a) a.received x

  abbrev hears : Frame → Finding
  hears x = heard_finds m.line m.body (secrets_of a) a.received x

  -- by what the frame was read as, and what that tells of it
  heard_road : (x : Frame) → Told a.received x → or_else (of_frame (frame_failing meter_side frame_tests a.received)) (rest x) ≡ hears x
  heard_road (Unanswered t) (_, n) = ap (λ v. or_else (of_frame v) (rest (Unanswered t))) (frame_fails t n)
  heard_road (Rejected t h) (_, n, _) = ap (λ v. or_else (of_frame v) (rest (Rejected t h))) (frame_fails t n)
  heard_road (LinkUp c h i) (n, _, _) =
      ap (λ v. or_else (of_frame v) (rest (LinkUp c h i))) (none_fails meter_side a.received n.passes) ∙ up_road m.line m.body (secrets_of a) a.received c h i
  heard_road (LinkDown c h) (n, _) =
      ap (λ v. or_else (of_frame v) (rest (LinkDown c h))) (none_fails meter_side a.received n.passes) ∙ down_road m.line m.body (secrets_of a) a.received c h
  heard_road (Apdu c h from to) (n, _, _) =
      ap (λ v. or_else (of_frame v) (rest (Apdu c h from to))) (none_fails meter_side a.received n.passes) ∙ apdu_road m.line m.body (secrets_of a) a.received c h from to

  -- the stretches of line and body are these
  rest_is : or_else (first_failing (call_fails m a) (map OfLine line_tests)) (first_failing (call_fails m a) (map OfBody body_tests)) ≡ rest (read_frame a.received)
  unfolding first_failing
  rest_is = refl

  -- the state's stretch is that of the body, then that of the line, then the transfer's
  pub state_road : state_finds m a ≡ or_else (body_state_finds m.body) (or_else (line_state_finds m.line) (transfer_finds m.line m.body))
  unfolding state_finds body_state_finds rows_finds line_state_finds transfer_finds first_failing
  state_road =
      go (accepted_registers m.body.store.registers) (accepted_columns m.body.store.registers m.body.store.columns) (permitted_period m.body.period) (valid_clock m.body.clock)
      (every (λ i r. valid_clock r.clock) 0 m.body.store.rows) (leb (length m.body.store.rows) max_rows) (every (λ i r. eqb (length r.cells) (length m.body.store.columns)) 0 m.body.store.rows)
      (cond (not (kinds_known m.line)) (unsound AssociationKind) (cond (not (links_stand m.line)) (unsound AssociationOnLink) (cond (not (services_offered m.line)) (unsound AgreedServices) (transfer_finds m.line m.body))))
      ∙ ap (or_else (body_state_finds m.body))
      (sym (else_three (not (kinds_known m.line)) (not (links_stand m.line)) (not (services_offered m.line)) (OfState AssociationKind) (OfState AssociationOnLink) (OfState AgreedServices) (Ok tt) (transfer_finds m.line m.body)))
    where
      go : (x1 x2 x3 x4 x5 x6 x7 : Bool) (rest : Finding)
          → cond (not x1) (unsound RegisterList) (cond (not x2) (unsound ColumnList) (cond (not x3) (unsound PeriodPermitted) (cond (not x4) (unsound ClockValid) (cond (not x5) (unsound RowClocksValid) (cond (not x6) (unsound RowCount) (cond (not x7) (unsound RowCells) rest))))))
          ≡ or_else (cond (not x1) (unsound RegisterList) (cond (not x2) (unsound ColumnList) (cond (not x3) (unsound PeriodPermitted) (cond (not x4) (unsound ClockValid) (cond (not x5) (unsound RowClocksValid) (cond (not x6) (unsound RowCount) (cond (not x7) (unsound RowCells) (Ok tt)))))))) rest
      go false x2 x3 x4 x5 x6 x7 rest = refl
      go true false x3 x4 x5 x6 x7 rest = refl
      go true true false x4 x5 x6 x7 rest = refl
      go true true true false x5 x6 x7 rest = refl
      go true true true true false x6 x7 rest = refl
      go true true true true true false x7 rest = refl
      go true true true true true true false rest = refl
      go true true true true true true true rest = refl

  pub found_road : found m a ≡ road_finds m a
  unfolding found road_finds lent_finds state_finds
  found_road =
      let g = call_fails m a in
      let line = map OfLine line_tests in
      let body = map OfBody body_tests in
      in_stretches g (map OfLent lent_tests) (map OfState soundness_tests ++ (map OfFrame frame_tests ++ (line ++ body)))
      ∙ ap (or_else (first_failing g (map OfLent lent_tests)))
      (in_stretches g (map OfState soundness_tests) (map OfFrame frame_tests ++ (line ++ body))
      ∙ ap (or_else (first_failing g (map OfState soundness_tests)))
      (in_stretches g (map OfFrame frame_tests) (line ++ body)
      ∙ ap (or_else (first_failing g (map OfFrame frame_tests))) (in_stretches g line body ∙ rest_is)
      ∙ ap (λ v. or_else v (rest (read_frame a.received))) (frame_stretch frame_tests)
      ∙ heard_road (read_frame a.received) (read_told a.received)))
