-- What a request in an envelope comes to: inside the window it is answered under the meter's next counter, outside the association
-- ends. `NextCounter`, `OutsideDropped` and `OverTheTop` of specs/Lazy, proved; and a meter and frames of which the last speaks.
use mathlib.Core.Path.{◌≡◌, refl, sym, ap, ◌∙◌}
use mathlib.Core.Bool.{Bool, true, false, ◌||◌, false≢true}
use mathlib.Core.List.{List}
use mathlib.Core.Logic.{inl}
use Prim.Native.Nat.{ℕ, ◌^◌, ◌≤◌, ◌<◌}
use native.Mathlib.Omega.{arith}
use lib.Dec.{lit<, lit≤}
use lib.ListN.{length, replicate}
use Rattle.std.specs.Prelude.{Option, Some, None}
use Rattle.wire.specs.Numbers.{length_field}
use Rattle.wire.specs.Reading.{same_bytes, skipped, expected, number_at}
use Rattle.model.specs.declared.Client.TheVariants.{Ciphering}
use Rattle.model.specs.declared.CipherClient.{CipherClient}
use Rattle.model.specs.declared.CipherClient.TheVariants.{Han}
use Rattle.model.specs.declared.Counters.{Counters}
use Rattle.model.specs.Limits.{longest_sent, longest_received, reply_room, greatest_apdu, envelope_length, max_rows, max_registers, max_columns}
use Rattle.model.specs.Clocks.{february_days, days_in, real_date, real_time, fixed_bytes, valid_clock}
use Rattle.model.specs.Periods.{periods}
use Rattle.model.specs.Services.{offered, within}
use Rattle.model.specs.State.{Association, none, pending, associated, Line, Model, with_line, new_peer, no_counters, new_meter}
use Rattle.model.specs.declared.SoundnessTest.TheVariants.{AssociationOnLink}
use Rattle.model.specs.Soundness.{accepted_registers, accepted_columns, is_none, links_stand, on_link, allowed, rows_allow, sound}
use Rattle.model.specs.Objects.{Inquiry, go_on, turned}
use Rattle.model.specs.Calls.{Lent, Wrap, Outcome, serve, decided, settles}
use Rattle.model.proofs.ListLaws.{both}
use Rattle.model.proofs.SoundnessLaws.{sound_passes}
use Rattle.cosem.specs.declared.Wanted.TheVariants.{Read}
use Rattle.cosem.specs.declared.Asked.{Asked}
use Rattle.cosem.specs.declared.Reading.TheVariants.{Asks, GoesOn}
use Rattle.cosem.specs.declared.Tag.TheVariants.{DedicatedRequest}
use Rattle.cosem.specs.declared.ServiceKind.{ServiceKind}
use Rattle.cosem.specs.declared.ServiceKind.TheVariants.{Get, Set, Action}
use Rattle.cosem.specs.Tags.{tag_of, tag_in, dedicated_tag}
use Rattle.cosem.specs.Requests.{optional_part, read_get, read_gets, read_service}
use Rattle.counters.specs.Advance.{taken}
use Rattle.counters.specs.Window.{accepting}
use Rattle.counters.proofs.StepLaws.{window_by_steps}
use Rattle.material.specs.Material.{Keys}
use Rattle.envelope.specs.Layout.{head, sealed_envelope}
use Rattle.envelope.specs.Opening.{longest_apdu, opens}
use Rattle.envelope.proofs.CloseLaws.{length_envelope, envelope_size}
use Rattle.envelope.proofs.RoundTrip.{opens_closed}
use Rattle.protocol.specs.Clients.{ciphering, counters, held, blocks_in, dedicated_keys, is_associated}
use Rattle.protocol.specs.Rulings.{Ruling, asks, decision}
use Rattle.protocol.specs.Decide.{wrap, request_of, asked_inside, admitted, accepted, advanced, request_enclosed, conversed, carried, ruled, decide, around, seal, secrets_of, p2}
use Rattle.protocol.specs.Outcomes.{outcome, head_in, enclosed_get}
use Rattle.protocol.proofs.MayLaws.{may_permitted, may_agreed, may_associated}
use Rattle.protocol.specs.Lazy.{request_frame, Sending, Asking, answer_of, get_profile, NextCounter, OutsideDropped, OverTheTop, OverTheTopHappens}
use Rattle.protocol.proofs.LinkUp.{outcome_ruled, ruled_request, tag_first}

-- a client's part of the test of soundness
on_link_lem : (c : CipherClient) (l : Line) → links_stand l ≡ true → on_link (ciphering c l).peer ≡ true
on_link_lem Han l e = (both (on_link l.verification) (on_link l.han.peer) e).1

-- an association that stands, or is pending, is on a link that is up
pub link_up_of : (c : CipherClient) (m : Model) → sound m ≡ true → is_none (held c m.line) ≡ false → (ciphering c m.line).peer.up ≡ true
link_up_of c m s some = go (ciphering c m.line).peer.up (on_link_lem c m.line (sound_passes m s AssociationOnLink))
  where
    go : (b : Bool) → b || is_none (held c m.line) ≡ true → b ≡ true
    go true e = refl
    go false e = sym some ∙ e

associated_some : (x : Association) → is_associated x ≡ true → is_none x ≡ false
associated_some none e = absurd (false≢true e)
associated_some (pending ag k d m) e = refl
associated_some (associated ag k) e = refl

pub tag_sealed : (k : Keys) (title : List ℕ) (tag counter : ℕ) (text : List ℕ) → tag_in (sealed_envelope k title tag counter text) ≡ tag_of tag
unfolding sealed_envelope head
tag_sealed k title tag counter text = tag_first tag _

tag_dedicated : (k : ServiceKind) → tag_of (dedicated_tag k) ≡ DedicatedRequest k
unfolding tag_of
tag_dedicated Get = refl
tag_dedicated Set = refl
tag_dedicated Action = refl

-- what the counter's test decides on, once the envelope has opened
abbrev sent_ruling : CipherClient → Line → Lent → ServiceKind → (counter : ℕ) → (text : List ℕ) → Ruling
sent_ruling c l a k counter text = admitted l c (opens counter text) (λ n t. asked_inside l (secrets_of a) c (head_in a) k n t (read_service k t))

module _ (c : CipherClient) (a : Lent) (l : Line) (k : ServiceKind) (counter : ℕ) (text : List ℕ) (s : Sending c a l k counter text) where
  abbrev env : List ℕ
  env = sealed_envelope (dedicated_keys a.ak c l) (ciphering c l).peer.title (dedicated_tag k) counter text

  up_carried : (ciphering c l).peer.up ≡ true → carried l (secrets_of a) (Ciphering c) (head_in a) env ≡ conversed l (secrets_of a) (Ciphering c) (head_in a) env (tag_in env)
  unfolding carried
  up_carried up = rw up

  sent_conversed : conversed l (secrets_of a) (Ciphering c) (head_in a) env (tag_in env) ≡ sent_ruling c l a k counter text
  unfolding conversed request_enclosed longest_apdu
  sent_conversed =
      rw (
        tag_sealed (dedicated_keys a.ak c l) (ciphering c l).peer.title (dedicated_tag k) counter text,
        tag_dedicated k,
        may_permitted s.may,
        may_agreed s.may,
        opens_closed (dedicated_keys a.ak c l) (ciphering c l).peer.title (dedicated_tag k) counter text s.small s.short,
      )

sent_ruled : (c : CipherClient) (a : Lent) (m : Model) (k : ServiceKind) (counter : ℕ) (text : List ℕ) → sound m ≡ true → Sending c a m.line k counter text
    → ruled m.line a ≡ sent_ruling c m.line a k counter text
unfolding greatest_apdu longest_received
sent_ruled c a m k counter text s sends =
    let l = m.line in
    let n = length_envelope (dedicated_keys a.ak c l) (ciphering c l).peer.title (dedicated_tag k) counter text in
    let size = envelope_size (length text) in
    let short = sends.short in
    let reached = ruled_request l a (Ciphering c) (env c a l k counter text sends) sends.received (omega arith) (omega arith) in
    let carries = up_carried c a l k counter text sends (link_up_of c m s (associated_some (held c l) (may_associated sends.may))) in
    reached ∙ carries ∙ sent_conversed c a l k counter text sends

-- What goes out around the body's answer, and the line that holds the counter taken: whatever is asked of the body.

sealed_outcome : (c : CipherClient) (a : Lent) (m : Model) (q : Inquiry) (counter : ℕ) (k : ServiceKind)
    → settles (decided p2 (serve q (wrap a.ak (Ciphering c) (head_in a) (dedicated_tag k)) (advanced c (accepted c counter m.line))) m)
    ≡ answer_of c a m k counter q
unfolding seal around taken accepting
sealed_outcome Han a m q counter k = refl

module _ (c : CipherClient) (a : Lent) (m : Model) (k : ServiceKind) (counter : ℕ) where
  abbrev pub answer_wrap : Wrap
  answer_wrap = wrap a.ak (Ciphering c) (head_in a) (dedicated_tag k)

  abbrev pub answer_line : Line
  answer_line = advanced c (accepted c counter m.line)

  -- the text, once its counter is accepted
  pub asked_ruled : (text : List ℕ) → sound m ≡ true → Asking c a m.line k counter text
      → ruled m.line a ≡ asked_inside m.line (secrets_of a) c (head_in a) k counter text (read_service k text)
  asked_ruled text s i = sent_ruled c a m k counter text s i.sends ∙ rw (window_by_steps.passes (counters c m.line).accepted counter i.window)

  -- the text comes to this inquiry
  abbrev pub Inquires : (text : List ℕ) → Inquiry → Type 0
  Inquires text q = asked_inside m.line (secrets_of a) c (head_in a) k counter text (read_service k text) ≡ asks q answer_wrap answer_line

  pub inquires : (text : List ℕ) (q : Asked) → read_service k text ≡ Some (Asks q) → Inquires text (request_of m.line (Ciphering c) text q)
  inquires text q r = rw r

  -- a numbered one, where block transfer was agreed
  pub inquires_next : (text : List ℕ) (i n : ℕ) → read_service k text ≡ Some (GoesOn i n) → blocks_in (Ciphering c) m.line ≡ true → Inquires text (go_on i n)
  inquires_next text i n r b = rw (r, b)

  module _ (text : List ℕ) (q : Inquiry) (s : sound m ≡ true) (i : Asking c a m.line k counter text) (r : Inquires text q) where
    inquired_ruled : ruled m.line a ≡ asks q answer_wrap answer_line
    inquired_ruled = asked_ruled text s i ∙ r

    pub inquired_decided : decide m.line a ≡ serve q answer_wrap answer_line
    unfolding decide
    inquired_decided = ap decision inquired_ruled

    inquired_settles : outcome a m ≡ settles (decided p2 (serve q answer_wrap answer_line) m)
    inquired_settles = outcome_ruled a m i.sends.enough s ∙ ap (λ (x : Ruling). settles (decided p2 (decision x) m)) inquired_ruled

    pub inquired_sent : (outcome a m).sent ≡ seal answer_line answer_wrap (turned q m.body).bytes
    inquired_sent = ap (λ (o : Outcome). o.sent) inquired_settles

    pub inquired_answer : outcome a m ≡ answer_of c a m k counter q
    inquired_answer = inquired_settles ∙ sealed_outcome c a m q counter k

pub next_counter_lem : NextCounter
next_counter_lem c a m k counter text q s i r =
    inquired_answer c a m k counter text (request_of m.line (Ciphering c) text q) s i (inquires c a m k counter text q r)

pub outside_dropped : OutsideDropped
outside_dropped c a m k counter text s sends outside =
    outcome_ruled a m sends.enough s
    ∙ ap (λ (x : Ruling). settles (decided p2 (decision x) m)) (sent_ruled c a m k counter text s sends)
    ∙ rw (window_by_steps.fails (counters c m.line).accepted counter outside)

-- The example of document 02.

pub over_the_top : OverTheTop
over_the_top =
    record {
      passes = λ c a m k text q s last sends r. next_counter_lem c a m k 5 text q s (record { sends = sends; window = record { steps = 11; least = lit≤ tt; most = lit≤ tt; counts = rw last } }) r;
      fails = λ c a m k text s last sends. outside_dropped c a m k 4294967290 text s sends (record { steps = 0; off = inl refl; once = lit< tt; counts = rw last });
    }

-- A new meter with an associated H, which agreed on all that it is offered, and whose counters are any.

abbrev pub some_line : Counters → Line
some_line n =
    record {
      title = replicate 8 0;
      verification = new_peer (replicate 8 0);
      han = record { peer = record { title = replicate 8 0; up = true; association = associated (offered (Ciphering Han)) (replicate 16 0) }; counters = n };
      p5 = false;
    }

abbrev pub some_meter : Counters → Model
some_meter n = with_line (some_line n) (new_meter (replicate 16 0) (replicate 8 0) (replicate 8 0) (replicate 8 0))

pub some_sound : (n : Counters) → sound (some_meter n) ≡ true
unfolding sound new_meter accepted_registers accepted_columns valid_clock real_date real_time fixed_bytes days_in february_days periods max_rows max_registers max_columns within allowed rows_allow
some_sound n = refl

-- and what its H sends
abbrev pub some_lent : (counter : ℕ) → (text : List ℕ) → Lent
some_lent counter text =
    record {
      room = reply_room longest_sent;
      guk = replicate 16 0;
      ak = replicate 16 0;
      challenge = replicate 8 0;
      received = request_frame (Ciphering Han) (sealed_envelope (dedicated_keys (replicate 16 0) Han (some_line no_counters)) (replicate 8 0) 0xD0 counter text);
    }

pub some_sends : (n : Counters) (counter : ℕ) (text : List ℕ) → counter < 256 ^ 4 → envelope_length (length text) ≤ greatest_apdu longest_received
    → Sending Han (some_lent counter text) (some_line n) Get counter text
unfolding tag_of within
some_sends n counter text small short =
    record { enough = record { room = omega arith; guk = refl; ak = refl; challenge = refl }; may = enclosed_get refl; small = small; short = short; received = refl }

-- which is a GET of the profile
abbrev pub profile_asked : ℕ → Asked
profile_asked invoke = record { invoke = invoke; class = 7; wanted = Read 2 }

pub profile_asked_lem : (invoke : ℕ) → read_service Get (get_profile invoke) ≡ Some (Asks (profile_asked invoke))
unfolding read_gets read_get optional_part expected skipped number_at same_bytes
profile_asked_lem invoke = refl

pub over_the_top_happens : OverTheTopHappens
unfolding envelope_length length_field greatest_apdu longest_received
over_the_top_happens =
    let n : Counters = record { accepted = 4294967290; sent = 0 } in
    record {
      meter = some_meter n;
      text = get_profile 0;
      asked = profile_asked 0;
      later = some_lent 5 (get_profile 0);
      again = some_lent 4294967290 (get_profile 0);
      is_sound = some_sound n;
      last = refl;
      reads = profile_asked_lem 0;
      goes_on = some_sends n 5 (get_profile 0) (lit< tt) (lit≤ tt);
      repeats = some_sends n 4294967290 (get_profile 0) (lit< tt) (lit≤ tt);
    }
