-- Demand 3 of the static library as it runs: every function that is lent a state buffer, each by its own `ensures`, in any list of
-- calls on a buffer, whatever it holds at first, in which each finds the buffer as the last one left it. A call stands in the list as
-- it is lent, so that those which are refused before a call on a meter is made are among them, each with its number.
use Rattle.std.specs.Prelude.{◌≡◌, cond, List, [], ◌∷◌, ◌++◌, map, ℕ, zero, suc, ◌/◌, length, take, drop, replicate}
use Rattle.model.specs.State.{Model}
use Rattle.model.specs.Calls.{Lent, Outcome, lent_refusal}
use Rattle.model.specs.Demand3.{Chosen, hide, Alike, SameOutcome, Handed, seen}
use Rattle.meter.specs.declared.Meter.{Meter}
use Rattle.meter.specs.View.{view}
use Rattle.protocol.specs.Decide.{p2}
use Rattle.image.specs.Image.{meter_of, status_of}
use Rattle.owner_calls.specs.Refusals.{new_refusal}
use Rattle.owner_calls.specs.Lending.{LentOwner, registers, value, columns, period, clock, p5, powered}
use Rattle.owner_calls.specs.Promises.{handed_back, NewCalled, refusal_for, OwnerCalled}
use Rattle.capi.specs.Refusals.{frame_refusal}
use Rattle.capi.specs.Lending.{LentOn, receive, own, call_of, LentCall, renew, call}
use Rattle.capi.specs.Promises.{FrameCalled}

-- Alike.

-- the record of a register, thirteen bytes: name (6), right, scaler, unit, value (4); zeros for the value where the register is chosen
abbrev pub hidden_record : Chosen → List ℕ → List ℕ
hidden_record ch s = take 9 s ++ cond (ch (record { bytes = take 6 s })) (replicate 4 0) (take 4 (drop 9 s))

-- the first n records so, and what follows them as it is
unfoldable pub hidden_records : Chosen → ℕ → List ℕ → List ℕ
hidden_records ch zero s = s
hidden_records ch (suc n) s = hidden_record ch s ++ hidden_records ch n (drop 13 s)

-- a call with 0 for the values that it gives or sets for chosen registers, whether its arguments are taken or not
abbrev pub hidden_own : Chosen → LentOwner → LentOwner
hidden_own ch (registers s) = registers (hidden_records ch (length s / 13) s)
hidden_own ch (value n v) = value n (hide (ch (record { bytes = n })) v)
hidden_own ch (columns s) = columns s
hidden_own ch (period d) = period d
hidden_own ch (clock t) = clock t
hidden_own ch (p5 h) = p5 h
hidden_own ch powered = powered

abbrev pub hidden_on : Chosen → LentOn → LentOn
hidden_on ch (receive a) = receive a
hidden_on ch (own c) = own (hidden_own ch c)

abbrev pub hidden_lent : Chosen → LentCall → LentCall
hidden_lent ch (renew d t v h) = renew d t v h
hidden_lent ch (call c) = call (hidden_on ch c)

-- "arguments are equal in both runs but for values given or set for chosen registers"
abbrev pub AlikeLent : Chosen → List LentCall → List LentCall → Type 0
AlikeLent ch cs₁ cs₂ = map (hidden_lent ch) cs₁ ≡ map (hidden_lent ch) cs₂

-- Runs.

-- a call of the library, from what the buffer held to what it holds
pub data Library (s e : List ℕ) : LentCall → Handed Meter view → Type 0 where
  renews : (d t v h : List ℕ) (n : ℕ) → NewCalled d t v h s e n → Library s e (renew d t v h) (handed_back n 0 e [] [])
  receives : (a : Lent) (l o : List ℕ) (k n : ℕ) → FrameCalled a s e l o k n → Library s e (call (receive a)) (handed_back n k e l o)
  owns : (c : LentOwner) (n : ℕ) → OwnerCalled c s e n → Library s e (call (own c)) (handed_back n 0 e [] [])

-- a list of calls is made
pub data LibraryRuns : (state : List ℕ) → List LentCall → List (Handed Meter view) → Type 0 where
  none : {s : List ℕ} → LibraryRuns s [] []
  more :
      {s : List ℕ} {c : LentCall} {h : Handed Meter view} {cs : List LentCall} {hs : List (Handed Meter view)} (e : List ℕ)
      → Library s e c h
      → LibraryRuns e cs hs
      → LibraryRuns s (c ∷ cs) (h ∷ hs)

-- what is refused before a call is made, or 0
abbrev pub refusal_before : LentCall → List ℕ → ℕ
refusal_before (renew d t v h) s = new_refusal s d t v h
refusal_before (call (receive a)) s = frame_refusal (status_of s) (lent_refusal a)
refusal_before (call (own c)) s = refusal_for c s

-- such a refusal is answered by its number; nothing goes out, and the buffer is as it was
pub record RefusedBefore (s e : List ℕ) (c : LentCall) (h : Handed Meter view) : Type 0 where
  pub refusal : h.refusal ≡ refusal_before c s
  pub count : h.count ≡ 0
  pub kept : e ≡ s

abbrev pub BeforeIsRefused : Type 0
BeforeIsRefused =
    (s e : List ℕ) (c : LentCall) (h : Handed Meter view)
    → Library s e c h
    → (refusal_before c s ≡ 0 → ⊥)
    → RefusedBefore s e c h

-- The claim.

-- a call of which no register is asked: the same number, the same bytes out, the meters alike again
pub record SameUnasked (ch : Chosen) (o₁ o₂ : Outcome) : Type 0 where
  pub refusal : o₁.refusal ≡ o₂.refusal
  pub sent : o₁.sent ≡ o₂.sent
  pub next : Alike ch o₁.next o₂.next

-- one call in each of two runs: on a meter as the model says
abbrev pub SameAnswer : Chosen → LentCall → Model → Outcome → Outcome → Type 0
SameAnswer ch (renew d t v h) m o₁ o₂ = SameUnasked ch o₁ o₂
SameAnswer ch (call c) m o₁ o₂ = SameOutcome p2 ch (call_of c) m o₁ o₂

-- call by call, over all of the list and of both runs
pub data SameAnswers (ch : Chosen) : List LentCall → Model → List Outcome → List Outcome → Type 0 where
  none_answered : {m : Model} → SameAnswers ch [] m [] []
  more_answered :
      {c : LentCall} {cs : List LentCall} {m : Model} {o₁ o₂ : Outcome} {os₁ os₂ : List Outcome}
      → SameAnswer ch c m o₁ o₂
      → SameAnswers ch cs o₁.next os₁ os₂
      → SameAnswers ch (c ∷ cs) m (o₁ ∷ os₁) (o₂ ∷ os₂)

-- Two state buffers that come to the same when they are read, whole images or not, and hold meters that are alike but for the chosen
-- registers; the same list of calls; whatever the two runs hand back: for each call, refused or not, the same number and length, and
-- the same bytes but for granted reads.
abbrev pub LibraryDemand3 : Type 0
LibraryDemand3 =
    (ch : Chosen) (s₁ s₂ : List ℕ) (cs₁ cs₂ : List LentCall) (hs₁ hs₂ : List (Handed Meter view))
    → status_of s₁ ≡ status_of s₂
    → Alike ch (view (meter_of s₁)) (view (meter_of s₂))
    → AlikeLent ch cs₁ cs₂
    → LibraryRuns s₁ cs₁ hs₁
    → LibraryRuns s₂ cs₂ hs₂
    → SameAnswers ch cs₁ (view (meter_of s₁)) (map (seen Meter view) hs₁) (map (seen Meter view) hs₂)
