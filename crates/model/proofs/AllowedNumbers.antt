-- Each call has the numbers that document 01 allows it, and refusals keep the meter: the statements on numbers of
-- specs/Archive, proved.
use mathlib.Core.Path.{◌≡◌, refl, ◌∙◌}
use mathlib.Core.Bool.{Bool, true, false, cond, not, ◌||◌, false≢true}
use mathlib.Core.List.{List, [], ◌∷◌}
use Prim.Native.Nat.{ℕ}
use lib.ListN.{length}
use lib.Dec.{eqb, ltb}
use borrow.Author.Tests.{eqb-true, eq-eqb}
use Rattle.model.specs.Limits.{longest_sent, reply_room}
use Rattle.model.specs.Names.{every, given}
use Rattle.model.specs.Clocks.{valid_clock}
use Rattle.model.specs.Periods.{listed, permitted_period}
use Rattle.model.specs.State.{Transfer, idle, running, ended, Body, Model}
use Rattle.model.specs.Soundness.{accepted_registers, accepted_columns, sound}
use Rattle.model.specs.Objects.{meaning, Service, get, action, Inquiry, ask, go_on, Result, granted, begun, denied, method_invoked, attribute_read, Turn, answered, continued, turned, refusal_of}
use Rattle.model.specs.Calls.{refused, Lent, lent_refusal, Call, frame, owner, OwnerCall, own_refusal, give_registers, set_value, set_columns, set_period, tick, set_p5, power_up, Outcome, Decision, answer, serve, Protocol, decided, act, early, step}
use Rattle.model.specs.Archive.{frame_numbers, said_number, KnownNumbers, numbers, NumbersAllowed, keeping_numbers, RefusalsKeep}
use Rattle.model.proofs.ListLaws.{both, by_test, every_anywhere}

-- a number of the first list is none of the second, by a test of each entry of the first
apart : (n : ℕ) (xs ys : List ℕ) → every (λ i x. not (listed x ys)) 0 xs ≡ true → listed n xs ≡ true → listed n ys ≡ true → ⊥
apart n [] ys t e f = false≢true e
apart n (x ∷ xs) ys t e f = go (eqb x n) refl e (λ j. apart n xs ys (every_anywhere (λ (y : ℕ). not (listed y ys)) 0 1 xs ∙ h.1) j f)
  where
    h : (not (listed x ys) ≡ true) × (every (λ i y. not (listed y ys)) 1 xs ≡ true)
    h = both (not (listed x ys)) _ t

    go : (b : Bool) → eqb x n ≡ b → b || listed n xs ≡ true → (listed n xs ≡ true → ⊥) → ⊥
    go true i j k = false≢true (rw (eqb-true x n i, f) at h.0)
    go false i j k = k j

-- refusals 1 and 2 are among a frame call's numbers
pub lent_allowed : (a : Lent) → listed (lent_refusal a) (numbers (frame a)) ≡ true
unfolding lent_refusal
lent_allowed a =
    go (ltb a.room (reply_room longest_sent)) (not (eqb (length a.guk) 16)) (not (eqb (length a.ak) 16)) (not (eqb (length a.challenge) 8))
  where
    go : (w x y z : Bool) → listed (cond w 1 (cond x 2 (cond y 2 (cond z 2 0)))) (numbers (frame a)) ≡ true
    go true x y z = refl
    go false true y z = refl
    go false false true z = refl
    go false false false true = refl
    go false false false false = refl

early_allowed : (c : Call) → listed (early c) (numbers c) ≡ true
early_allowed (frame a) = lent_allowed a
early_allowed (owner o) = refl

three_allowed : (c : Call) → listed 3 (numbers c) ≡ true
three_allowed (frame a) = refl
three_allowed (owner o) = refl

-- an owner's call that is refused has its own number
own_if : (b : Bool) (k : ℕ) → listed (cond b 0 k) (0 ∷ 3 ∷ k ∷ []) ≡ true
own_if true k = refl
own_if false k = rw (eq-eqb k k refl) (last (eqb 0 k) (eqb 3 k))
  where
    last : (a b : Bool) → a || (b || (true || false)) ≡ true
    last true b = refl
    last false true = refl
    last false false = refl

own_allowed : (o : OwnerCall) (m : Model) → listed (own_refusal o m) (numbers (owner o)) ≡ true
own_allowed (give_registers rs) m = own_if (accepted_registers rs) 16
own_allowed (set_value n v) m = own_if (given n m.body.store.registers) 17
own_allowed (set_columns cs) m = own_if (accepted_columns m.body.store.registers cs) 18
own_allowed (set_period d) m = own_if (permitted_period d) 15
own_allowed (tick t) m = own_if (valid_clock t) 14
own_allowed (set_p5 f) m = refl
own_allowed power_up m = refl

-- the body answers with number 0 or 13
turned_number : (q : Inquiry) (b : Body) → listed (turned q b).refusal (0 ∷ 13 ∷ []) ≡ true
unfolding turned
turned_number (go_on i n) b = go b.transfer
  where
    go : (t : Transfer) → listed (continued i n b t).refusal (0 ∷ 13 ∷ []) ≡ true
    go idle = refl
    go (running x k) = by_test (λ (t : Turn). listed t.refusal (0 ∷ 13 ∷ []) ≡ true) (eqb n k) (λ _. refl) (λ _. refl)
    go ended = refl
turned_number (ask q) b = service q.service
  where
    result : (r : Result) → listed (refusal_of r) (0 ∷ 13 ∷ []) ≡ true
    result (granted d) = refl
    result (begun t d) = refl
    result (denied c) = refl

    service : (v : Service) → listed (answered q b (meaning q.client q.name b.store.registers) v).refusal (0 ∷ 13 ∷ []) ≡ true
    service (get a s) = result (attribute_read q a s b (meaning q.client q.name b.store.registers))
    service (action k v) = result (method_invoked q k v (meaning q.client q.name b.store.registers))

-- what stands in one list stands in another, by a test of each entry of the first
inside : (n : ℕ) (xs ys : List ℕ) → every (λ i x. listed x ys) 0 xs ≡ true → listed n xs ≡ true → listed n ys ≡ true
inside n [] ys t e = absurd (false≢true e)
inside n (x ∷ xs) ys t e = go (eqb x n) refl e (λ j. inside n xs ys (every_anywhere (λ (y : ℕ). listed y ys) 0 1 xs ∙ h.1) j)
  where
    h : (listed x ys ≡ true) × (every (λ i y. listed y ys) 1 xs ≡ true)
    h = both (listed x ys) _ t

    go : (b : Bool) → eqb x n ≡ b → b || listed n xs ≡ true → (listed n xs ≡ true → listed n ys ≡ true) → listed n ys ≡ true
    go true i j k = rw (eqb-true x n i) at h.0
    go false i j k = k j

module _ (p : Protocol) (known_numbers : KnownNumbers p) (m : Model) where
  decided_number : (a : Lent) → listed (decided p (p.decide m.line a) m).refusal frame_numbers ≡ true
  decided_number a = go (p.decide m.line a) (known_numbers m.line a)
    where
      go : (d : Decision) → listed (said_number d) frame_numbers ≡ true → listed (decided p d m).refusal frame_numbers ≡ true
      go (answer s) e = e
      go (serve q w l) e = inside (turned q m.body).refusal (0 ∷ 13 ∷ []) frame_numbers refl (turned_number q m.body)

  act_allowed : (c : Call) → listed (act p c m).refusal (numbers c) ≡ true
  unfolding act
  act_allowed (frame a) = inside (decided p (p.decide m.line a) m).refusal frame_numbers (numbers (frame a)) refl (decided_number a)
  act_allowed (owner o) =
      by_test (λ (q : Outcome). listed q.refusal (numbers (owner o)) ≡ true) (eqb (own_refusal o m) 0) (λ _. refl) (λ _. own_allowed o m)

  -- a number of the keeping kind, and the outcome is that refusal
  abbrev Keeps : Outcome → Type 0
  Keeps o = listed o.refusal keeping_numbers ≡ true → o ≡ refused o.refusal m

  act_keeps : (c : Call) → Keeps (act p c m)
  unfolding act
  act_keeps (frame a) = λ e. absurd (apart (decided p (p.decide m.line a) m).refusal frame_numbers keeping_numbers refl (decided_number a) e)
  act_keeps (owner o) = by_test Keeps (eqb (own_refusal o m) 0) (λ _ e. absurd (false≢true e)) (λ _ _. refl)

pub numbers_allowed : (p : Protocol) → KnownNumbers p → NumbersAllowed p
unfolding step
numbers_allowed p h c m =
    by_test (λ (o : Outcome). listed o.refusal (numbers c) ≡ true) (eqb (early c) 0)
    (λ _. by_test (λ (o : Outcome). listed o.refusal (numbers c) ≡ true) (sound m) (λ _. act_allowed p h m c) (λ _. three_allowed c))
    (λ _. early_allowed c)

pub refusals_keep : (p : Protocol) → KnownNumbers p → RefusalsKeep p
unfolding step
refusals_keep p h c m =
    by_test (Keeps p h m) (eqb (early c) 0) (λ _. by_test (Keeps p h m) (sound m) (λ _. act_keeps p h m c) (λ _ _. refl)) (λ _ _. refl)
