-- How a request ends that the body answers: from what was written and went out, the number and what becomes of the body, to what the
-- ruling promises.
use mathlib.Core.Path.{◌≡◌, refl, sym, ap, ◌∙◌}
use mathlib.Core.Bool.{false, false≢true}
use mathlib.Core.List.{List}
use Prim.Native.Nat.{ℕ, ◌-◌, ◌≤◌, ◌<◌}
use native.Mathlib.Omega.{arith}
use lib.Dec.{eqb}
use lib.ListN.{length, take, drop}
use Rattle.model.specs.Periods.{listed}
use Rattle.model.specs.Limits.{longest_sent, text_room, envelope_length}
use Rattle.model.specs.declared.CipherClient.{CipherClient}
use Rattle.model.specs.declared.Client.TheVariants.{Verification, Ciphering}
use Rattle.model.specs.State.{Line, Transfer, idle, running, ended, Body}
use Rattle.model.specs.Objects.{Service, get, action, Inquiry, ask, go_on, meaning, Result, granted, begun, denied, refusal_of as result_number, attribute_read, method_invoked, Turn, continued, answered, turned}
use Rattle.model.specs.Calls.{Wrap}
use Rattle.model.proofs.ListLaws.{by_test}
use Rattle.wire_write.proofs.WroteLaws.{there}
use Rattle.hdlc.specs.declared.Head.{Head}
use Rattle.hdlc.specs.Replies.{apdu_frame, Sent}
use Rattle.hdlc_write.proofs.ReplyLaws.{length_apdu}
use Rattle.cosem.specs.Tags.{answer_tag}
use Rattle.material.specs.Material.{Keys}
use Rattle.envelope.specs.Layout.{sealed_envelope}
use Rattle.envelope.proofs.CloseLaws.{envelope_size, length_envelope}
use Rattle.answers.specs.declared.Turned.{Turned}
use Rattle.answers.specs.Promise.{Turns}
use Rattle.line.specs.declared.LineState.{LineState}
use Rattle.line.specs.View.{line_of}
use Rattle.body.specs.declared.BodyState.{BodyState}
use Rattle.body.specs.View.{body_of}
use Rattle.meter.specs.declared.Meter.{Meter}
use Rattle.meter.specs.View.{view}
use Rattle.protocol.specs.Clients.{counters, dedicated_keys}
use Rattle.protocol.specs.Rulings.{asks}
use Rattle.protocol.specs.Outcomes.{keeping}
use Rattle.protocol.specs.Decide.{wrap, around, seal}
use Rattle.protocol.proofs.Turns.{turned_some}
use Rattle.ending.specs.Inner.{received, SameAssociations, Follows}
use Rattle.ending.proofs.Endings.{sent_over, leaves, same_wipes}

-- the body denies by 13, and by no other number
turned_free : (q : Inquiry) (b : Body) → listed (turned q b).refusal keeping ≡ false
unfolding turned
turned_free (ask q) b = go q.service
  where
    result : (x : Result) → listed (result_number x) keeping ≡ false
    result (granted d) = refl
    result (begun t d) = refl
    result (denied c) = refl

    go : (s : Service) → listed (answered q b (meaning q.client q.name b.store.registers) s).refusal keeping ≡ false
    go (get a s) = result (attribute_read q a s b (meaning q.client q.name b.store.registers))
    go (action k v) = result (method_invoked q k v (meaning q.client q.name b.store.registers))
turned_free (go_on i n) b = go b.transfer
  where
    go : (t : Transfer) → listed (continued i n b t).refusal keeping ≡ false
    go idle = refl
    go (running x k) = by_test (λ (u : Turn). listed u.refusal keeping ≡ false) (eqb n k) (λ _. refl) (λ _. refl)
    go ended = refl

-- the body answers
pub serves : (q : Inquiry) (w : Wrap) (m : Meter) (next : LineState) {becomes : Line} (b : BodyState) {l o : List ℕ} {n k : ℕ}
    → line_of next ≡ becomes
    → n ≡ (turned q (body_of m.body)).refusal
    → body_of b ≡ (turned q (body_of m.body)).body
    → Sent (seal becomes w (turned q (body_of m.body)).bytes) l o k
    → SameAssociations (line_of m.line) becomes
    → Follows (asks q w becomes) m l o (received n k (record { line = next; body = b }))
unfolding view
serves q w m next {becomes} b v e f s a =
    record {
      gave = record { refusal = e; count = s.count; meter = rw (v, f) refl; room = s.holds };
      kept = λ g. absurd (false≢true (sym (turned_free q (body_of m.body)) ∙ ap (λ (y : ℕ). listed y keeping) (sym e) ∙ g));
      wiped = leaves m next v b (same_wipes next a);
    }

-- The body's answer that was written at a place: how long it is, and that it goes out.
module _ (q : Inquiry) (x : BodyState) (at : ℕ) {l m : List ℕ} {r : Turned} (t : Turns (turned q (body_of x)) x l at m r) where
  pub answer_size : r.next - at ≡ length (turned q (body_of x)).bytes
  answer_size = omega (arith, t.wrote.next)

  pub answer_some : 0 < r.next - at
  answer_some = omega (arith, answer_size, turned_some q (body_of x))

  pub answer_short : r.next - at ≤ text_room longest_sent
  answer_short = omega (arith, t.short)

  answer_there : take (r.next - at) (drop at m) ≡ (turned q (body_of x)).bytes
  answer_there = ap (λ (n : ℕ). take n (drop at m)) answer_size ∙ there t.wrote

  pub plain_sent : (ak : List ℕ) (h : Head) (n : Line) {o : List ℕ} {k : ℕ} → at ≤ 14 → Sent (apdu_frame h (take (r.next - at) (drop at m))) m o k → Sent (seal n (wrap ak Verification h 0xC0) (turned q (body_of x)).bytes) l o k
  unfolding seal around
  plain_sent ak h n e s =
      let bs = (turned q (body_of x)).bytes in
      sent_over t.wrote (rw (answer_there) at s) (omega (arith, t.wrote.next, length_apdu h bs))

  pub enclosed_sent : (c : CipherClient) (ak title : List ℕ) (h : Head) (tag counter : ℕ) (keys : Keys) (n : Line) {o : List ℕ} {k : ℕ} → at ≤ 20
      → keys ≡ dedicated_keys ak c n → title ≡ n.title → counter ≡ (counters c n).sent
      → Sent (apdu_frame h (sealed_envelope keys title (answer_tag tag) counter (take (r.next - at) (drop at m)))) m o k
      → Sent (seal n (wrap ak (Ciphering c) h tag) (turned q (body_of x)).bytes) l o k
  unfolding seal around
  enclosed_sent c ak title h tag counter keys n e ek et ec s =
      let bs = (turned q (body_of x)).bytes in
      let u = rw (answer_there, ek, et, ec) at s in
      let z : length (sealed_envelope (dedicated_keys ak c n) n.title (answer_tag tag) (counters c n).sent bs) ≡ envelope_length (length bs) = length_envelope (dedicated_keys ak c n) n.title (answer_tag tag) (counters c n).sent bs in
      sent_over t.wrote u (omega (arith, t.wrote.next, z, envelope_size (length bs), length_apdu h (sealed_envelope (dedicated_keys ak c n) n.title (answer_tag tag) (counters c n).sent bs)))
