-- A due tick adds one row and alters none, and no call removes a row but those that empty the profile: the statements on rows
-- of specs/Archive, proved.
use mathlib.Core.Path.{◌≡◌, refl, ◌∙◌, ap}
use mathlib.Core.Bool.{Bool, true, false, cond, ◌&&◌}
use mathlib.Core.List.{List, ◌∷◌}
use Prim.Native.Nat.{ℕ, zero, suc, ◌-◌, ◌<◌}
use native.Mathlib.Omega.{arith}
use lib.ListN.{take}
use lib.Seq.{take_all}
use lib.Dec.{eqb, lit<}
use Rattle.model.specs.declared.Name.{Name}
use Rattle.model.specs.declared.Clock.{Clock}
use Rattle.model.specs.Limits.{max_rows}
use Rattle.model.specs.Names.{same_name}
use Rattle.model.specs.Periods.{capture_due}
use Rattle.model.specs.State.{Line, Body, Model, with_body, with_clock}
use Rattle.model.specs.Soundness.{sound}
use Rattle.model.specs.Objects.{Content, simple, rows, record_number, register, Meaning, known, unknown, meaning, Service, get, action, Request, ask, go_on, Result, granted, begun, denied, refusal_of, method_invoked, after_method, after_action, answered, turned, profile_named}
use Rattle.model.specs.Calls.{Lent, Call, frame, owner, OwnerCall, own_refusal, obeyed, give_registers, set_value, set_columns, set_period, tick, set_p5, power_up, Outcome, done, Wrap, Decision, answer, serve, Protocol, decided, settles, row_now, captured, ticked, act, early, step}
use Rattle.model.specs.Archive.{rows_of, OneMore, DueTicks, on_profile, empties, may_empty, RowsAfter, stay, grow, empty, RowsStay}
use Rattle.model.proofs.ListLaws.{by_test}
use Rattle.model.proofs.ObjectLaws.{Acts, ActsBy, action_acts, read_moves, block_moves}

-- of k at most, the first stands in front of all but the last of the others
take_front : {A : Type 0} (k : ℕ) (x : A) (xs : List A) → 0 < k → take k (x ∷ xs) ≡ x ∷ take (k - 1) xs
take_front zero x xs h = absurd (omega arith)
take_front (suc k) x xs h = let e : k ≡ suc k - 1 = omega arith in ap (λ (j : ℕ). x ∷ take j xs) e

some_rows : 0 < max_rows
unfolding max_rows
some_rows = lit< tt

captured_more : (t : Clock) (b : Body) → OneMore t b (captured t b)
unfolding captured
captured_more t b =
    record {
      rows = take_front max_rows (row_now t b) b.store.rows some_rows;
      kept = λ h. take_all max_rows (row_now t b ∷ b.store.rows) h;
      number = refl;
    }

ticked_more : (t : Clock) (b : Body) → capture_due b.period t ≡ true → OneMore t b (ticked t b)
unfolding ticked
ticked_more t b d = rw d (let h = captured_more t b in record { rows = h.rows; kept = h.kept; number = h.number })

pub due_ticks : (p : Protocol) → DueTicks p
unfolding step act
due_ticks p m t s v d = rw (s, v) (ticked_more t m.body d)

module _ (p : Protocol) (m : Model) where
  -- the rows after an ACTION that was granted: as they were, or none, where it is method 1 of the profile
  method_rows : (c : Call) (o : Outcome) (x : Content) (n : Name) (j : ℕ) → Acts x n j → (same_name profile_named n && eqb j 1 ≡ true → may_empty p c m.line ≡ true)
      → o.refusal ≡ 0 → rows_of o.next ≡ (after_method x m.body).store.rows → RowsAfter p c m o
  method_rows c o (simple y) n j t k z e = stay e
  method_rows c o rows n j t k z e = empty (k t) z e
  method_rows c o record_number n j t k z e = stay e
  method_rows c o (register r) n j t k z e = stay e

  action_rows : (c : Call) (o : Outcome) (w : Meaning) (r : Result) (n : Name) (j : ℕ) → ActsBy w r n j → (same_name profile_named n && eqb j 1 ≡ true → may_empty p c m.line ≡ true)
      → o.refusal ≡ refusal_of r → rows_of o.next ≡ (after_action w m.body r).store.rows → RowsAfter p c m o
  action_rows c o unknown r n j t k z e = stay e
  action_rows c o (known x) (granted d) n j t k z e = method_rows c o x.content n j t k z e
  action_rows c o (known x) (begun u d) n j t k z e = stay e
  action_rows c o (known x) (denied d) n j t k z e = stay e

  served_rows : (a : Lent) (q : Request) (v : Service) (w : Wrap) (l : Line) (o : Outcome) → p.decide m.line a ≡ serve (ask q) w l → q.service ≡ v
      → o.refusal ≡ (answered q m.body (meaning q.client q.name m.body.store.registers) v).refusal
      → rows_of o.next ≡ (answered q m.body (meaning q.client q.name m.body.store.registers) v).body.store.rows → RowsAfter p (frame a) m o
  served_rows a q (get k s) w l o d e z f = stay (f ∙ ap (λ (b : Body). b.store.rows) (read_moves q.client _ m.body))
  served_rows a q (action k v) w l o d e z f =
      action_rows (frame a) o (meaning q.client q.name m.body.store.registers) (method_invoked q k v (meaning q.client q.name m.body.store.registers))
      q.name k (action_acts q k v m.body.store.registers)
      (λ h. ap empties d ∙ ap (on_profile q.name) e ∙ h) z f

  owner_rows : (o : OwnerCall) → RowsAfter p (owner o) m (done (obeyed o m))
  unfolding ticked
  owner_rows (give_registers rs) = empty refl refl refl
  owner_rows (set_value n v) = stay refl
  owner_rows (set_columns cs) = empty refl refl refl
  owner_rows (set_period d) = stay refl
  owner_rows (tick t) = go (capture_due m.body.period t) refl
    where
      go : (b : Bool) → capture_due m.body.period t ≡ b → RowsAfter p (owner (tick t)) m (done (with_body (with_clock t (cond b (captured t m.body) m.body)) m))
      go true e = grow t refl e (let h = captured_more t m.body in record { rows = h.rows; kept = h.kept; number = h.number })
      go false e = stay refl
  owner_rows (set_p5 f) = stay refl
  owner_rows power_up = empty refl refl refl

  act_rows : (c : Call) → RowsAfter p c m (act p c m)
  unfolding act turned
  act_rows (frame a) = go (p.decide m.line a) refl
    where
      go : (d : Decision) → p.decide m.line a ≡ d → RowsAfter p (frame a) m (settles (decided p d m))
      go (answer s) e = stay refl
      go (serve (ask q) w l) e = served_rows a q q.service w l (settles (decided p (serve (ask q) w l) m)) e refl refl refl
      go (serve (go_on i n) w l) e = stay (ap (λ (b : Body). b.store.rows) (block_moves i n m.body m.body.transfer))
  act_rows (owner o) = by_test (RowsAfter p (owner o) m) (eqb (own_refusal o m) 0) (λ _. owner_rows o) (λ _. stay refl)

pub rows_stay : (p : Protocol) → RowsStay p
unfolding step
rows_stay p c m =
    by_test (RowsAfter p c m) (eqb (early c) 0)
    (λ _. by_test (RowsAfter p c m) (sound m) (λ _. act_rows p m c) (λ _. stay refl))
    (λ _. stay refl)
