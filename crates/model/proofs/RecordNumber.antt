-- The record number is never invented: the statement on it of specs/Archive, proved.
use mathlib.Core.Path.{◌≡◌, refl, ◌∙◌, ap}
use mathlib.Core.Bool.{Bool, true, false, cond, ◌&&◌}
use Prim.Native.Nat.{ℕ}
use lib.Dec.{eqb}
use Rattle.model.specs.declared.Name.{Name}
use Rattle.model.specs.Names.{same_name}
use Rattle.model.specs.Periods.{capture_due}
use Rattle.model.specs.State.{Line, Body, Model, with_body, with_clock}
use Rattle.model.specs.Soundness.{sound}
use Rattle.model.specs.Objects.{record_number_named, Content, simple, rows, record_number, register, Meaning, known, unknown, meaning, Service, get, action, Request, ask, go_on, Result, granted, begun, denied, refusal_of, method_invoked, after_method, after_action, answered, turned}
use Rattle.model.specs.Calls.{Lent, Call, frame, owner, OwnerCall, own_refusal, obeyed, give_registers, set_value, set_columns, set_period, tick, set_p5, power_up, Outcome, done, Wrap, Decision, answer, serve, Protocol, decided, settles, captured, ticked, act, early, step}
use Rattle.model.specs.Archive.{on_record_number, renumbers, may_reset, NumberAfter, same, next, reset, NumberStays}
use Rattle.model.proofs.ListLaws.{by_test}
use Rattle.model.proofs.ObjectLaws.{Acts, ActsBy, action_acts, read_moves, block_moves}

module _ (p : Protocol) (m : Model) where
  -- after an ACTION that was granted: as it was, or 0 where it is method 1 of the record number
  method_number : (c : Call) (o : Outcome) (x : Content) (n : Name) (j : ℕ) → Acts x n j → (same_name record_number_named n && eqb j 1 ≡ true → may_reset p c m.line ≡ true)
      → o.refusal ≡ 0 → o.next.body.number ≡ (after_method x m.body).number → NumberAfter p c m o
  method_number c o (simple y) n j t k z e = same e
  method_number c o rows n j t k z e = same e
  method_number c o record_number n j t k z e = reset (k t) z e
  method_number c o (register r) n j t k z e = same e

  action_number : (c : Call) (o : Outcome) (w : Meaning) (r : Result) (n : Name) (j : ℕ) → ActsBy w r n j → (same_name record_number_named n && eqb j 1 ≡ true → may_reset p c m.line ≡ true)
      → o.refusal ≡ refusal_of r → o.next.body.number ≡ (after_action w m.body r).number → NumberAfter p c m o
  action_number c o unknown r n j t k z e = same e
  action_number c o (known x) (granted d) n j t k z e = method_number c o x.content n j t k z e
  action_number c o (known x) (begun u d) n j t k z e = same e
  action_number c o (known x) (denied d) n j t k z e = same e

  served_number : (a : Lent) (q : Request) (v : Service) (w : Wrap) (l : Line) (o : Outcome) → p.decide m.line a ≡ serve (ask q) w l → q.service ≡ v
      → o.refusal ≡ (answered q m.body (meaning q.client q.name m.body.store.registers) v).refusal
      → o.next.body.number ≡ (answered q m.body (meaning q.client q.name m.body.store.registers) v).body.number → NumberAfter p (frame a) m o
  served_number a q (get k s) w l o d e z f = same (f ∙ ap (λ (b : Body). b.number) (read_moves q.client _ m.body))
  served_number a q (action k v) w l o d e z f =
      action_number (frame a) o (meaning q.client q.name m.body.store.registers) (method_invoked q k v (meaning q.client q.name m.body.store.registers))
      q.name k (action_acts q k v m.body.store.registers)
      (λ h. ap renumbers d ∙ ap (on_record_number q.name) e ∙ h) z f

  owner_number : (o : OwnerCall) → NumberAfter p (owner o) m (done (obeyed o m))
  unfolding ticked captured
  owner_number (give_registers rs) = same refl
  owner_number (set_value n v) = same refl
  owner_number (set_columns cs) = same refl
  owner_number (set_period d) = same refl
  owner_number (tick t) = go (capture_due m.body.period t) refl
    where
      go : (b : Bool) → capture_due m.body.period t ≡ b → NumberAfter p (owner (tick t)) m (done (with_body (with_clock t (cond b (captured t m.body) m.body)) m))
      go true e = next t refl e refl
      go false e = same refl
  owner_number (set_p5 f) = same refl
  owner_number power_up = reset refl refl refl

  act_number : (c : Call) → NumberAfter p c m (act p c m)
  unfolding act turned
  act_number (frame a) = go (p.decide m.line a) refl
    where
      go : (d : Decision) → p.decide m.line a ≡ d → NumberAfter p (frame a) m (settles (decided p d m))
      go (answer s) e = same refl
      go (serve (ask q) w l) e = served_number a q q.service w l (settles (decided p (serve (ask q) w l) m)) e refl refl refl
      go (serve (go_on i n) w l) e = same (ap (λ (b : Body). b.number) (block_moves i n m.body m.body.transfer))
  act_number (owner o) = by_test (NumberAfter p (owner o) m) (eqb (own_refusal o m) 0) (λ _. owner_number o) (λ _. same refl)

pub number_stays : (p : Protocol) → NumberStays p
unfolding step
number_stays p c m =
    by_test (NumberAfter p c m) (eqb (early c) 0)
    (λ _. by_test (NumberAfter p c m) (sound m) (λ _. act_number p m c) (λ _. same refl))
    (λ _. same refl)
