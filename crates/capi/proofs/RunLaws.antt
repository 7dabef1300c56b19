-- Demand 3 of the static library: a call that is made is one of the model's promises, on the meters in the buffers; one that is refused
-- before is refused in both runs, by the same number, and leaves both buffers.
use mathlib.Core.Path.{◌≡◌, refl, sym, subst, ap, ap₂, ◌∙◌}
use mathlib.Core.Bool.{Bool, true, false, cond, true≢false, false≢true}
use mathlib.Core.List.{List, [], ◌∷◌, map, head-eq_of_cons-eq, tail-eq_of_cons-eq, nil≢cons, cons≢nil}
use Prim.Native.Nat.{ℕ}
use lib.Dec.{eqb}
use lib.ListN.{length, take, drop, get_or}
use borrow.Author.Tests.{eqb-true, eqb-false}
use Rattle.model.specs.State.{Model, new_meter}
use Rattle.model.specs.Calls.{lent_refusal, Call, give_registers, set_value, owner}
use Rattle.model.specs.Demand3.{Chosen, hidden, hidden_owner, hidden_call, Alike, Handed, seen, Promised, none_run, more_run}
use Rattle.model.specs.Soundness.{sound}
use Rattle.model.proofs.HidingLaws.{hide_hide, sound_hidden}
use Rattle.model.proofs.Noninterference.{first_same}
use Rattle.meter.specs.declared.Meter.{Meter}
use Rattle.meter.specs.View.{view}
use Rattle.protocol.specs.Decide.{p2}
use Rattle.protocol.proofs.Claim.{p2_demand3}
use Rattle.std.specs.Prelude.{Ok, Err}
use Rattle.image.specs.declared.ImageFault.TheVariants.{WrongLength, WrongVersion, NoImage}
use Rattle.image.specs.Layout.{meter_part}
use Rattle.image.specs.Image.{Status, version, image_size, meter_of, whole, status_of, wrong_length}
use Rattle.owner_calls.specs.Refusals.{wrong_argument, fault_of, refusal_by, new_sized, new_refusal}
use Rattle.owner_calls.specs.Lending.{LentOwner, registers, value, columns, period, clock, p5, powered, fault, owner_of}
use Rattle.owner_calls.specs.Promises.{Stores}
use Rattle.capi.specs.Refusals.{frame_refusal}
use Rattle.capi.specs.Lending.{LentOn, receive, own, call_of, LentCall, renew, call}
use Rattle.capi.specs.Runs.{hidden_own, hidden_on, hidden_lent, Library, renews, receives, owns, none, more, refusal_before, RefusedBefore, BeforeIsRefused, SameAnswer, SameAnswers, none_answered, more_answered, LibraryDemand3}
use Rattle.capi.proofs.RecordLaws.{whole_hidden, list_hidden}

-- Alike calls.

module _ (ch : Chosen) where
  -- what is tested of arguments is the same for alike arguments
  fault_hidden : (c : LentOwner) → fault c ≡ fault (hidden_own ch c)
  fault_hidden (registers s) = ap (λ (b : Bool). fault_of b 16) (whole_hidden ch s)
  fault_hidden (value n v) = refl
  fault_hidden (columns s) = refl
  fault_hidden (period d) = refl
  fault_hidden (clock t) = refl
  fault_hidden (p5 h) = refl
  fault_hidden powered = refl

  own_call_hidden : (c : LentOwner) → hidden_owner ch (owner_of c) ≡ hidden_owner ch (owner_of (hidden_own ch c))
  own_call_hidden (registers s) = ap give_registers (list_hidden ch s)
  own_call_hidden (value n v) = ap (set_value (record { bytes = n })) (sym (hide_hide (ch (record { bytes = n })) v))
  own_call_hidden (columns s) = refl
  own_call_hidden (period d) = refl
  own_call_hidden (clock t) = refl
  own_call_hidden (p5 h) = refl
  own_call_hidden powered = refl

  call_hidden : (c : LentOn) → hidden_call ch (call_of c) ≡ hidden_call ch (call_of (hidden_on ch c))
  call_hidden (receive a) = refl
  call_hidden (own c) = ap owner (own_call_hidden c)

-- One call.

-- it is refused before it is made
pub before_is_refused : BeforeIsRefused
before_is_refused s e c h (renews d t v y n f) z =
    let q = f.refused z in
    record { refusal = q; count = refl; kept = f.kept (λ w. z (sym q ∙ w)) }
before_is_refused s e c h (receives a l o k n f) z = let x = f.refused z in record { refusal = x.0; count = x.1.count; kept = x.1.state }
before_is_refused s e c h (owns d n f) z =
    let q = f.refused z in
    record { refusal = q; count = refl; kept = f.kept (λ w. z (sym q ∙ w)) }

-- the meter handed back is the one in the buffer
next_is : {s e : List ℕ} {c : LentCall} {h : Handed Meter view} → Library s e c h → h.meter ≡ meter_of e
next_is (renews d t v y n f) = refl
next_is (receives a l o k n f) = refl
next_is (owns d n f) = refl

-- what a meter of the code holds, but for the chosen registers
abbrev unchosen : Chosen → Meter → Model
unchosen ch m = hidden ch (view m)

-- meters handed back that are alike are alike in the buffers
next_alike : (ch : Chosen) {s₁ e₁ s₂ e₂ : List ℕ} {c₁ c₂ : LentCall} {h₁ h₂ : Handed Meter view} → Library s₁ e₁ c₁ h₁ → Library s₂ e₂ c₂ h₂
    → Alike ch (view h₁.meter) (view h₂.meter)
    → Alike ch (view (meter_of e₁)) (view (meter_of e₂))
next_alike ch x y a = sym (ap (unchosen ch) (next_is x)) ∙ a ∙ ap (unchosen ch) (next_is y)

-- it is made: the model's promise of the meter in the buffer, and the buffer holds a whole image again
record Made (s e : List ℕ) (c : Call) (h : Handed Meter view) : Type 0 where
  pub promised : Promised Meter view p2 c (meter_of s) h
  pub again : status_of e ≡ whole

made : {s e : List ℕ} {c : LentOn} {h : Handed Meter view} → Library s e (call c) h → refusal_before (call c) s ≡ 0 → Made s e (call_of c) h
made (receives a l o k n f) z = let x = f.called z in record { promised = x.promised; again = x.again }
made (owns d n f) z = let x = f.called z in record { promised = x.promised p2; again = x.again }

-- a new meter was made
record Renewed (d t v y e : List ℕ) (h : Handed Meter view) : Type 0 where
  pub refusal : h.refusal ≡ 0
  pub sent : take h.count h.after ≡ []
  pub stores : Stores (new_meter d t v y) e
  pub next : h.meter ≡ meter_of e

-- One call in each of two runs.

record Both (ch : Chosen) (c : LentCall) (s₁ e₁ e₂ : List ℕ) (h₁ h₂ : Handed Meter view) : Type 0 where
  pub same : SameAnswer ch c (view (meter_of s₁)) (seen Meter view h₁) (seen Meter view h₂)
  pub next : Alike ch (view (meter_of e₁)) (view (meter_of e₂))
  pub status : status_of e₁ ≡ status_of e₂

-- the length of a buffer, as its status tells it

abbrev is_long : Status → Bool
is_long (Ok u) = true
is_long (Err WrongLength) = false
is_long (Err WrongVersion) = true
is_long (Err NoImage) = true

long_told : (s : List ℕ) → eqb (length s) image_size ≡ is_long (status_of s)
unfolding status_of
long_told s = go (eqb (length s) image_size) (eqb (get_or s 0 0) version) (meter_part.taken (drop 1 s))
  where
    go : (b c d : Bool) → b ≡ is_long (cond b (cond c (cond d whole (Err NoImage)) (Err WrongVersion)) (Err WrongLength))
    go true true true = refl
    go true true false = refl
    go true false d = refl
    go false c d = refl

module _ (ch : Chosen) (s₁ s₂ : List ℕ) (w : status_of s₁ ≡ status_of s₂) (a : Alike ch (view (meter_of s₁)) (view (meter_of s₂))) where
  sound_same : sound (view (meter_of s₁)) ≡ sound (view (meter_of s₂))
  sound_same = sym (sound_hidden ch (view (meter_of s₁))) ∙ ap sound a ∙ sound_hidden ch (view (meter_of s₂))

  long_same : eqb (length s₁) image_size ≡ eqb (length s₂) image_size
  long_same = long_told s₁ ∙ ap is_long w ∙ sym (long_told s₂)

  -- a call, and the same call hidden, on two buffers that come to the same
  before_hidden : (c : LentCall) → refusal_before c s₁ ≡ refusal_before (hidden_lent ch c) s₂
  before_hidden (renew d t v h) = ap (λ (b : Bool). cond b (fault_of (new_sized d t v h) wrong_argument) wrong_length) long_same
  before_hidden (call (receive x)) = ap (λ (t : Status). frame_refusal t (lent_refusal x)) w
  before_hidden (call (own d)) =
      ap (λ (t : Status). refusal_by t (sound (view (meter_of s₁))) (fault d)) w
      ∙ ap₂ (refusal_by (status_of s₂)) sound_same (fault_hidden ch d)

  before_kept : (c : LentCall) → refusal_before c s₂ ≡ refusal_before (hidden_lent ch c) s₂
  before_kept (renew d t v h) = refl
  before_kept (call (receive x)) = refl
  before_kept (call (own d)) = ap (refusal_by (status_of s₂) (sound (view (meter_of s₂)))) (fault_hidden ch d)

  before_same : (c₁ c₂ : LentCall) → hidden_lent ch c₁ ≡ hidden_lent ch c₂ → refusal_before c₁ s₁ ≡ refusal_before c₂ s₂
  before_same c₁ c₂ c = before_hidden c₁ ∙ ap (λ (d : LentCall). refusal_before d s₂) c ∙ sym (before_kept c₂)

  -- refused in both runs
  module _ {e₁ e₂ : List ℕ} {h₁ h₂ : Handed Meter view} (c₁ c₂ : LentCall) (c : hidden_lent ch c₁ ≡ hidden_lent ch c₂) (x : Library s₁ e₁ c₁ h₁) (y : Library s₂ e₂ c₂ h₂) (z : refusal_before c₁ s₁ ≡ 0 → ⊥) where
    first : RefusedBefore s₁ e₁ c₁ h₁
    first = before_is_refused s₁ e₁ c₁ h₁ x z

    second : RefusedBefore s₂ e₂ c₂ h₂
    second = before_is_refused s₂ e₂ c₂ h₂ y (λ q. z (before_same c₁ c₂ c ∙ q))

    numbers_refused : h₁.refusal ≡ h₂.refusal
    numbers_refused = first.refusal ∙ before_same c₁ c₂ c ∙ sym second.refusal

    none_sent : (h : Handed Meter view) → h.count ≡ 0 → take h.count h.after ≡ []
    none_sent h e = ap (λ (k : ℕ). take k h.after) e

    sent_refused : take h₁.count h₁.after ≡ take h₂.count h₂.after
    sent_refused = none_sent h₁ first.count ∙ sym (none_sent h₂ second.count)

    next_refused : Alike ch (view h₁.meter) (view h₂.meter)
    next_refused =
        ap (unchosen ch) (next_is x ∙ ap meter_of first.kept) ∙ a ∙ sym (ap (unchosen ch) (next_is y ∙ ap meter_of second.kept))

    same_refused : (c : LentCall) → SameAnswer ch c (view (meter_of s₁)) (seen Meter view h₁) (seen Meter view h₂)
    same_refused (renew d t v h) = record { refusal = numbers_refused; sent = sent_refused; next = next_refused }
    same_refused (call d) = record { refusal = numbers_refused; size = ap length sent_refused; sent = λ _. sent_refused; next = next_refused }

    both_refused : Both ch c₁ s₁ e₁ e₂ h₁ h₂
    both_refused =
        record {
          same = same_refused c₁;
          next = next_alike ch x y next_refused;
          status = ap status_of first.kept ∙ w ∙ sym (ap status_of second.kept);
        }

  -- made in both runs: on the meters in the buffers

  module _ {e₁ e₂ : List ℕ} {h₁ h₂ : Handed Meter view} (c₁ c₂ : LentOn) (c : hidden_on ch c₁ ≡ hidden_on ch c₂) (x : Library s₁ e₁ (call c₁) h₁) (y : Library s₂ e₂ (call c₂) h₂) where
    calls_same : hidden_call ch (call_of c₁) ≡ hidden_call ch (call_of c₂)
    calls_same = call_hidden ch c₁ ∙ ap (λ (d : LentOn). hidden_call ch (call_of d)) c ∙ sym (call_hidden ch c₂)

    both_called : refusal_before (call c₁) s₁ ≡ 0 → Both ch (call c₁) s₁ e₁ e₂ h₁ h₂
    both_called z =
        let m₁ = made x z in
        let m₂ = made y (sym (before_same (call c₁) (call c₂) (ap call c)) ∙ z) in
        let same = first_same (p2_demand3 ch (meter_of s₁) (meter_of s₂) (call_of c₁ ∷ []) (call_of c₂ ∷ []) (h₁ ∷ []) (h₂ ∷ []) a (ap (λ (d : Call). d ∷ []) calls_same) (more_run m₁.promised none_run) (more_run m₂.promised none_run)) in
        record {
          same = same;
          next = next_alike ch x y same.next;
          status = m₁.again ∙ sym m₂.again;
        }

-- a new meter, made in both runs

-- what a call makes anew
abbrev new_of : LentCall → Model
new_of (renew d t v h) = new_meter d t v h
new_of (call c) = new_meter [] [] [] []

renewed : {s e : List ℕ} {d t v y : List ℕ} {h : Handed Meter view} → Library s e (renew d t v y) h → new_refusal s d t v y ≡ 0 → Renewed d t v y e h
renewed (renews d t v y n f) z = let x = f.called z in record { refusal = x.number; sent = refl; stores = x.stores; next = refl }

module _ (ch : Chosen) {e₁ e₂ : List ℕ} {h₁ h₂ : Handed Meter view} {d₁ t₁ v₁ y₁ d₂ t₂ v₂ y₂ : List ℕ} (c : renew d₁ t₁ v₁ y₁ ≡ renew d₂ t₂ v₂ y₂)
    (x : Renewed d₁ t₁ v₁ y₁ e₁ h₁) (y : Renewed d₂ t₂ v₂ y₂ e₂ h₂) where
  views_same : view (meter_of e₁) ≡ view (meter_of e₂)
  views_same = x.stores.holds ∙ ap new_of c ∙ sym y.stores.holds

  both_renewed : {s : List ℕ} → Both ch (renew d₁ t₁ v₁ y₁) s e₁ e₂ h₁ h₂
  both_renewed =
      record {
        same = record {
          refusal = x.refusal ∙ sym y.refusal;
          sent = x.sent ∙ sym y.sent;
          next = ap (unchosen ch) x.next ∙ ap (hidden ch) views_same ∙ sym (ap (unchosen ch) y.next);
        };
        next = ap (hidden ch) views_same;
        status = x.stores.status ∙ sym y.stores.status;
      }

-- Either.

abbrev is_new : LentCall → Bool
is_new (renew d t v h) = true
is_new (call c) = false

-- the call on a meter, of one that is such
abbrev on_of : LentOn → LentCall → LentOn
on_of c (renew d t v h) = c
on_of c (call d) = d

module _ (ch : Chosen) (s₁ s₂ : List ℕ) {e₁ e₂ : List ℕ} {h₁ h₂ : Handed Meter view} (w : status_of s₁ ≡ status_of s₂) (a : Alike ch (view (meter_of s₁)) (view (meter_of s₂))) where
  both_made : (c₁ c₂ : LentCall) → hidden_lent ch c₁ ≡ hidden_lent ch c₂ → Library s₁ e₁ c₁ h₁ → Library s₂ e₂ c₂ h₂ → refusal_before c₁ s₁ ≡ 0 → Both ch c₁ s₁ e₁ e₂ h₁ h₂
  both_made (renew d₁ t₁ v₁ y₁) (renew d₂ t₂ v₂ y₂) c x y z = both_renewed ch c (renewed x z) (renewed y (sym (before_same ch s₁ s₂ w a (renew d₁ t₁ v₁ y₁) (renew d₂ t₂ v₂ y₂) c) ∙ z))
  both_made (renew d₁ t₁ v₁ y₁) (call c₂) c x y z = absurd (true≢false (ap is_new c))
  both_made (call c₁) (renew d₂ t₂ v₂ y₂) c x y z = absurd (false≢true (ap is_new c))
  both_made (call c₁) (call c₂) c x y z = both_called ch s₁ s₂ w a c₁ c₂ (ap (on_of (hidden_on ch c₁)) c) x y z

  both : (c₁ c₂ : LentCall) → hidden_lent ch c₁ ≡ hidden_lent ch c₂ → Library s₁ e₁ c₁ h₁ → Library s₂ e₂ c₂ h₂ → Both ch c₁ s₁ e₁ e₂ h₁ h₂
  both c₁ c₂ c x y = go (eqb (refusal_before c₁ s₁) 0) refl
    where
      go : (b : Bool) → eqb (refusal_before c₁ s₁) 0 ≡ b → Both ch c₁ s₁ e₁ e₂ h₁ h₂
      go true g = both_made c₁ c₂ c x y (eqb-true _ _ g)
      go false g = both_refused ch s₁ s₂ w a c₁ c₂ c x y (eqb-false _ _ g)

-- Lists of calls.

pub library_demand3 : LibraryDemand3
library_demand3 ch s₁ s₂ [] [] [] [] w a c none none = none_answered
library_demand3 ch s₁ s₂ [] [] [] (h₂ ∷ hs₂) w a c r₁ r₂ = elim r₂ [ ]
library_demand3 ch s₁ s₂ [] [] (h₁ ∷ hs₁) hs₂ w a c r₁ r₂ = elim r₁ [ ]
library_demand3 ch s₁ s₂ [] (c₂ ∷ cs₂) hs₁ hs₂ w a c r₁ r₂ = absurd (nil≢cons c)
library_demand3 ch s₁ s₂ (c₁ ∷ cs₁) [] hs₁ hs₂ w a c r₁ r₂ = absurd (cons≢nil c)
library_demand3 ch s₁ s₂ (c₁ ∷ cs₁) (c₂ ∷ cs₂) [] hs₂ w a c r₁ r₂ = elim r₁ [ ]
library_demand3 ch s₁ s₂ (c₁ ∷ cs₁) (c₂ ∷ cs₂) (h₁ ∷ hs₁) [] w a c r₁ r₂ = elim r₂ [ ]
library_demand3 ch s₁ s₂ (c₁ ∷ cs₁) (c₂ ∷ cs₂) (h₁ ∷ hs₁) (h₂ ∷ hs₂) w a c (more e₁ x r₁) (more e₂ y r₂) =
    let b = both ch s₁ s₂ w a c₁ c₂ (head-eq_of_cons-eq c) x y in
    more_answered b.same
    (subst (λ (m : Meter). SameAnswers ch cs₁ (view m) (map (seen Meter view) hs₁) (map (seen Meter view) hs₂)) (sym (next_is x))
    (library_demand3 ch e₁ e₂ cs₁ cs₂ hs₁ hs₂ b.status b.next (tail-eq_of_cons-eq c) r₁ r₂))
