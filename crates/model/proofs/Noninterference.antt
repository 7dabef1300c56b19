-- Demand 3, proved over any protocol that keeps lengths: one call against the same call, hidden, on the hidden meter; then
-- two calls through that, then two lists of calls; and last whatever functions hand back that keep their promises.
use mathlib.Core.Path.{◌≡◌, refl, sym, ◌∙◌, ap, ap₂}
use mathlib.Core.Bool.{Bool, true, false, cond}
use mathlib.Core.List.{List, [], ◌∷◌, map, head-eq_of_cons-eq, tail-eq_of_cons-eq, nil≢cons, cons≢nil}
use Prim.Native.Nat.{ℕ}
use lib.ListN.{length, take, drop}
use lib.Seq.{take_at}
use lib.Dec.{eqb}
use borrow.Author.Tests.{eqb-true}
use Rattle.model.specs.declared.Name.{Name}
use Rattle.model.specs.declared.Clock.{Clock}
use Rattle.model.specs.declared.Register.{Register}
use Rattle.model.specs.Limits.{max_rows}
use Rattle.model.specs.Names.{given}
use Rattle.model.specs.State.{Entry, idle, Body, Model, with_line, with_body, with_store, with_clock, with_period, with_number, with_transfer, with_other_rows, keeping, with_p5}
use Rattle.model.specs.Periods.{capture_due}
use Rattle.model.specs.Soundness.{sound}
use Rattle.model.specs.Objects.{Service, get, action, ask, go_on}
use Rattle.model.specs.Calls.{Call, frame, owner, OwnerCall, own_refusal, obeyed, give_registers, set_value, set_columns, set_period, tick, set_p5, power_up, Outcome, done, refused, Decision, answer, serve, Protocol, KeepsLengths, decided, settled, settles, captured, ticked, row_now, next_number, with_given, with_assigned, with_columns, powered_line, act, early, step, trace}
use Rattle.model.specs.Demand3.{Chosen, hide, hide_register, hide_body, hidden, hidden_owner, hidden_call, Alike, AlikeCalls, asks_chosen, decides_read, reads, SameOutcome, SameOutcomes, none_same, more_same, TraceDemand3, Handed, Gave, seen, none_run, more_run, RunIsTrace, Demand3}
use Rattle.model.proofs.ListLaws.{passed}
use Rattle.model.proofs.HidingLaws.{registers_twice, sound_hidden, given_hidden, assigned_hidden, accepted_hidden, columns_hidden, row_hidden, rows_pushed, rows_twice}
use Rattle.model.proofs.AnswerLaws.{turned_close, body_twice, emptied_twice}

-- One call.

module _ (p : Protocol) (keeps : KeepsLengths p) (ch : Chosen) where
  -- Two outcomes: the second is that of the hidden call on the hidden meter, or of the other run.
  record Close (may : Bool) (o q : Outcome) : Type 0 where
    refusal : o.refusal ≡ q.refusal
    size : length o.sent ≡ length q.sent
    sent : ((may ≡ true) × (o.refusal ≡ 0) → ⊥) → o.sent ≡ q.sent
    next : hidden ch o.next ≡ hidden ch q.next

  close_done : {may : Bool} (m n : Model) → hidden ch m ≡ hidden ch n → Close may (done m) (done n)
  close_done m n e = record { refusal = refl; size = refl; sent = λ _. refl; next = e }

  close_refused : {may : Bool} (k : ℕ) (m n : Model) → hidden ch m ≡ hidden ch n → Close may (refused k m) (refused k n)
  close_refused k m n e = record { refusal = refl; size = refl; sent = λ _. refl; next = e }

  close_if : {may : Bool} (b : Bool) {o q o' q' : Outcome} → (b ≡ true → Close may o q) → Close may o' q' → Close may (cond b o o') (cond b q q')
  close_if true x y = x refl
  close_if false x y = y

  hidden_twice : (m : Model) → hidden ch m ≡ hidden ch (hidden ch m)
  hidden_twice m = ap (λ (b : Body). with_body b m) (body_twice ch m.body)

  decided_close : (d : Decision) (m : Model) → Close (decides_read ch d m.body) (decided p d m) (decided p d (hidden ch m))
  decided_close (answer s) m = record { refusal = refl; size = refl; sent = λ _. refl; next = hidden_twice (with_line s.line m) }
  decided_close (serve q w l) m =
      let h = turned_close ch q m.body in
      record {
        refusal = h.refusal;
        size = keeps l w _ _ h.size;
        sent = λ k. ap (p.seal l w) (h.bytes k);
        next = ap (λ (b : Body). record { line = l; body = b }) h.body;
      }

  -- which transfer is kept is no matter of values
  settles_close : {may : Bool} (o q : Outcome) → Close may o q → Close may (settles o) (settles q)
  settles_close o q h = record { refusal = h.refusal; size = h.size; sent = h.sent; next = ap settled h.next }

  registers_close : (rs : List Register) (b : Body) → hide_body ch (with_given rs b) ≡ hide_body ch (with_given (map (hide_register ch) rs) (hide_body ch b))
  registers_close rs b =
      ap (λ (xs : List Register). with_other_rows (keeping xs [] []) b) (sym (registers_twice ch rs))

  assigned_close : (n : Name) (v : ℕ) (b : Body) → given n b.store.registers ≡ true
      → hide_body ch (with_assigned n v b) ≡ hide_body ch (with_assigned n (hide (ch n) v) (hide_body ch b))
  assigned_close n v b g =
      ap₂ (λ (xs : List Register) (rs : List Entry). with_store (keeping xs b.store.columns rs) b)
      (sym (assigned_hidden ch n v b.store.registers g)) (sym (rows_twice ch b.store.columns b.store.rows))

  columns_close : (cs : List Name) (b : Body) → hide_body ch (with_columns cs b) ≡ hide_body ch (with_columns cs (hide_body ch b))
  columns_close cs b =
      ap (λ (xs : List Register). with_other_rows (keeping xs cs []) b) (sym (registers_twice ch b.store.registers))

  captured_close : (t : Clock) (b : Body) → hide_body ch (captured t b) ≡ hide_body ch (captured t (hide_body ch b))
  unfolding captured
  captured_close t b =
      ap₂ (λ (xs : List Register) (rs : List Entry). with_number (next_number b.number) (with_other_rows (keeping xs b.store.columns rs) b))
      (sym (registers_twice ch b.store.registers))
      (sym (rows_pushed ch max_rows b.store.columns (row_now t (hide_body ch b)) (row_now t b) b.store.rows (row_hidden ch t b)))

  ticked_close : (t : Clock) (b : Body) → hide_body ch (ticked t b) ≡ hide_body ch (ticked t (hide_body ch b))
  unfolding ticked
  ticked_close t b = ap (with_clock t) (go (capture_due b.period t))
    where
      go : (due : Bool) → hide_body ch (cond due (captured t b) b) ≡ hide_body ch (cond due (captured t (hide_body ch b)) (hide_body ch b))
      go true = captured_close t b
      go false = body_twice ch b

  own_refusal_hidden : (o : OwnerCall) (m : Model) → own_refusal (hidden_owner ch o) (hidden ch m) ≡ own_refusal o m
  own_refusal_hidden (give_registers rs) m = ap (λ (b : Bool). cond b 0 16) (accepted_hidden ch rs)
  own_refusal_hidden (set_value n v) m = ap (λ (b : Bool). cond b 0 17) (given_hidden ch n m.body.store.registers)
  own_refusal_hidden (set_columns cs) m = ap (λ (b : Bool). cond b 0 18) (columns_hidden ch m.body.store.registers cs)
  own_refusal_hidden (set_period d) m = refl
  own_refusal_hidden (tick t) m = refl
  own_refusal_hidden (set_p5 f) m = refl
  own_refusal_hidden power_up m = refl

  obeyed_hidden : (o : OwnerCall) (m : Model) → own_refusal o m ≡ 0 → hidden ch (obeyed o m) ≡ hidden ch (obeyed (hidden_owner ch o) (hidden ch m))
  obeyed_hidden (give_registers rs) m z = ap (λ (b : Body). with_body b m) (registers_close rs m.body)
  obeyed_hidden (set_value n v) m z = ap (λ (b : Body). with_body b m) (assigned_close n v m.body (passed (given n m.body.store.registers) 17 refl z))
  obeyed_hidden (set_columns cs) m z = ap (λ (b : Body). with_body b m) (columns_close cs m.body)
  obeyed_hidden (set_period d) m z = ap (λ (b : Body). with_body b m) (body_twice ch (with_period d m.body))
  obeyed_hidden (tick t) m z = ap (λ (b : Body). with_body b m) (ticked_close t m.body)
  obeyed_hidden (set_p5 f) m z = hidden_twice (with_line (with_p5 f m.line) m)
  obeyed_hidden power_up m z = ap (λ (b : Body). record { line = powered_line m.line; body = with_transfer idle (with_number 0 b) }) (emptied_twice ch m.body)

  act_close : (c : Call) (m : Model) → Close (reads p ch c m) (act p c m) (act p (hidden_call ch c) (hidden ch m))
  unfolding act
  act_close (frame a) m = settles_close _ _ (decided_close (p.decide m.line a) m)
  act_close (owner o) m =
      rw (own_refusal_hidden o m)
      (close_if (eqb (own_refusal o m) 0) (λ z. close_done _ _ (obeyed_hidden o m (eqb-true (own_refusal o m) 0 z))) (close_refused (own_refusal o m) m (hidden ch m) (hidden_twice m)))

  reads_hidden : (c : Call) (m : Model) → reads p ch (hidden_call ch c) (hidden ch m) ≡ reads p ch c m
  reads_hidden (frame a) m = go (p.decide m.line a)
    where
      go : (d : Decision) → decides_read ch d (hidden ch m).body ≡ decides_read ch d m.body
      go (answer s) = refl
      go (serve (go_on i n) w l) = refl
      go (serve (ask q) w l) = asks q.service
        where
          asks : (v : Service) → asks_chosen ch q.name v (hidden ch m).body.store ≡ asks_chosen ch q.name v m.body.store
          asks (get a s) = simp (given_hidden ch q.name m.body.store.registers)
          asks (action k v) = refl
  reads_hidden (owner o) m = refl

  early_hidden : (c : Call) → early (hidden_call ch c) ≡ early c
  early_hidden (frame a) = refl
  early_hidden (owner o) = refl

  -- Two runs, one call. That both meters are sound or both are not is a premise: in the base it follows from alikeness.
  module _ (c₁ c₂ : Call) (m₁ m₂ : Model) (e : hidden_call ch c₁ ≡ hidden_call ch c₂) (l : Alike ch m₁ m₂) where
    act_same : Close (reads p ch c₁ m₁) (act p c₁ m₁) (act p c₂ m₂)
    act_same =
        let x = act_close c₁ m₁ in
        let y = act_close c₂ m₂ in
        let z : act p (hidden_call ch c₁) (hidden ch m₁) ≡ act p (hidden_call ch c₂) (hidden ch m₂) = ap₂ (act p) e l in
        let r : (act p c₁ m₁).refusal ≡ (act p c₂ m₂).refusal = x.refusal ∙ ap (λ (o : Outcome). o.refusal) z ∙ sym y.refusal in
        let s : reads p ch c₁ m₁ ≡ reads p ch c₂ m₂ = sym (reads_hidden c₁ m₁) ∙ ap₂ (reads p ch) e l ∙ reads_hidden c₂ m₂ in
        record {
          refusal = r;
          size = x.size ∙ ap (λ (o : Outcome). length o.sent) z ∙ sym y.size;
          sent = λ k. x.sent k ∙ ap (λ (o : Outcome). o.sent) z ∙ sym (y.sent (λ h. k (s ∙ h.0, r ∙ h.1)));
          next = x.next ∙ ap (λ (o : Outcome). hidden ch o.next) z ∙ sym y.next;
        }

    early_same : early c₁ ≡ early c₂
    early_same = sym (early_hidden c₁) ∙ ap early e ∙ early_hidden c₂

    step_same : sound m₁ ≡ sound m₂ → Close (reads p ch c₁ m₁) (step p c₁ m₁) (step p c₂ m₂)
    unfolding step
    step_same s =
        rw (early_same, s)
        (close_if (eqb (early c₂) 0) (λ _. close_if (sound m₂) (λ _. act_same) (close_refused 3 m₁ m₂ l)) (close_refused (early c₂) m₁ m₂ l))

  sound_same : (m₁ m₂ : Model) → Alike ch m₁ m₂ → sound m₁ ≡ sound m₂
  sound_same m₁ m₂ l = sym (sound_hidden ch m₁) ∙ ap sound l ∙ sound_hidden ch m₂

  -- Two runs, any list.

  pub same_call : (c₁ c₂ : Call) (m₁ m₂ : Model) → hidden_call ch c₁ ≡ hidden_call ch c₂ → Alike ch m₁ m₂ → SameOutcome p ch c₁ m₁ (step p c₁ m₁) (step p c₂ m₂)
  same_call c₁ c₂ m₁ m₂ e l =
      let h = step_same c₁ c₂ m₁ m₂ e l (sound_same m₁ m₂ l) in
      record { refusal = h.refusal; size = h.size; sent = h.sent; next = h.next }

  same_trace : (m₁ m₂ : Model) (cs₁ cs₂ : List Call) → Alike ch m₁ m₂ → AlikeCalls ch cs₁ cs₂ → SameOutcomes p ch cs₁ m₁ (trace p cs₁ m₁) (trace p cs₂ m₂)
  unfolding trace
  same_trace m₁ m₂ [] [] l e = none_same
  same_trace m₁ m₂ [] (c₂ ∷ cs₂) l e = absurd (nil≢cons e)
  same_trace m₁ m₂ (c₁ ∷ cs₁) [] l e = absurd (cons≢nil e)
  same_trace m₁ m₂ (c₁ ∷ cs₁) (c₂ ∷ cs₂) l e =
      let h = same_call c₁ c₂ m₁ m₂ (head-eq_of_cons-eq e) l in
      more_same h (same_trace (step p c₁ m₁).next (step p c₂ m₂).next cs₁ cs₂ h.next (tail-eq_of_cons-eq e))

-- the first call of two lists of outcomes that are the same
pub first_same : {p : Protocol} {ch : Chosen} {c : Call} {cs : List Call} {m : Model} {o₁ o₂ : Outcome} {os₁ os₂ : List Outcome}
    → SameOutcomes p ch (c ∷ cs) m (o₁ ∷ os₁) (o₂ ∷ os₂) → SameOutcome p ch c m o₁ o₂
first_same (more_same x xs) = x

-- Demand 3, for every list of calls as the model runs it.
pub trace_demand3 : (p : Protocol) → KeepsLengths p → TraceDemand3 p
trace_demand3 p keeps ch = same_trace p keeps ch

-- The functions' promises.

module _ (Meter : Type 0) (view : Meter → Model) where
  -- what is seen of what was handed back is the outcome
  pub seen_is : (o : Outcome) (h : Handed Meter view) → Gave Meter view o h → seen Meter view h ≡ o
  seen_is o h g =
      λ i. record {
        refusal = g.refusal i;
        sent = (ap₂ take g.count g.room ∙ take_at o.sent (drop (length o.sent) h.before) (length o.sent) refl) i;
        next = g.meter i;
      }

  pub run_trace : (p : Protocol) → RunIsTrace Meter view p
  unfolding trace
  run_trace p m [] [] none_run = refl
  run_trace p m [] (h ∷ hs) x = elim x [ ]
  run_trace p m (c ∷ cs) [] x = elim x [ ]
  run_trace p m (c ∷ cs) (h ∷ hs) (more_run g x) =
      ap₂ ◌∷◌ (seen_is (step p c (view m)) h g) (run_trace p h.meter cs hs x ∙ ap (trace p cs) g.meter)

  -- Demand 3, of functions that keep their promises.
  pub demand3 : (p : Protocol) → KeepsLengths p → Demand3 Meter view p
  demand3 p keeps ch m₁ m₂ cs₁ cs₂ hs₁ hs₂ l e x y =
      rw (run_trace p m₁ cs₁ hs₁ x, run_trace p m₂ cs₂ hs₂ y) (trace_demand3 p keeps ch (view m₁) (view m₂) cs₁ cs₂ l e)
