-- A call by its stretches: what is lent, the state, the frame; and what a stretch that is passed tells.
use mathlib.Core.Path.{◌≡◌, refl, sym, ap, ◌∙◌}
use mathlib.Core.Bool.{Bool, true, false, cond, not, ◌&&◌}
use mathlib.Core.List.{List, [], ◌∷◌, map}
use Prim.Native.Nat.{ℕ, suc}
use lib.Dec.{eqb, ltb}
use lib.ListN.{length}
use borrow.Author.Tests.{ltb-false, eqb-true}
use Rattle.std.specs.Prelude.{Ok, Err}
use Rattle.model.specs.declared.SoundnessTest.{SoundnessTest}
use Rattle.model.specs.Limits.{longest_sent, reply_room}
use Rattle.model.specs.Names.{every}
use Rattle.model.specs.State.{Model}
use Rattle.model.specs.Soundness.{passes, soundness_tests, sound}
use Rattle.model.specs.Calls.{Lent}
use Rattle.hdlc.specs.Reading.{read_frame}
use Rattle.protocol.specs.Decide.{secrets_of}
use Rattle.call_tests.specs.declared.LentTest.TheVariants.{ReplyRoom, GukLength, AkLength, ChallengeLength}
use Rattle.call_tests.specs.declared.CallTest.TheVariants.{Lent as OfLent, Sound as OfState}
use Rattle.call_tests.specs.declared.CallTest.{CallTest}
use Rattle.call_tests.specs.Finding.{Finding}
use Rattle.call_tests.specs.Tests.{call_fails, first_failing, found}
use Rattle.call_tests.specs.Claims.{WellLent}
use Rattle.call_tests.specs.Road.{heard_finds, or_else, lent_finds, state_finds, body_state_finds, line_state_finds, transfer_finds, road_finds}
use Rattle.call_tests.proofs.TestLaws.{passes_never}
use Rattle.call_tests.proofs.Road.{found_road, state_road}

module _ (m : Model) (a : Lent) where
  -- The state.

  -- what the body's tests leave: the line's, then the transfer's
  abbrev beside : Finding
  beside = or_else (line_state_finds m.line) (transfer_finds m.line m.body)

  pub body_fails_lem : {t : CallTest} → body_state_finds m.body ≡ Err t → Err t ≡ state_finds m a
  body_fails_lem e = sym (state_road m a ∙ ap (λ y. or_else y beside) e)

  module _ (e : body_state_finds m.body ≡ Ok tt) where
    past_body : state_finds m a ≡ beside
    past_body = state_road m a ∙ ap (λ y. or_else y beside) e

    pub line_fails_lem : {t : CallTest} → line_state_finds m.line ≡ Err t → Err t ≡ state_finds m a
    line_fails_lem f = sym (past_body ∙ ap (λ y. or_else y (transfer_finds m.line m.body)) f)

    pub transfer_left : {x : Finding} → line_state_finds m.line ≡ Ok tt → x ≡ transfer_finds m.line m.body → x ≡ state_finds m a
    transfer_left f g = g ∙ sym (past_body ∙ ap (λ y. or_else y (transfer_finds m.line m.body)) f)

  -- a state that passes its stretch is sound
  every_passes : (k : ℕ) (ts : List SoundnessTest) → first_failing (call_fails m a) (map OfState ts) ≡ Ok tt → every (λ i t. passes t m) k ts ≡ true
  unfolding first_failing
  every_passes k [] e = refl
  every_passes k (t ∷ ts) e = go (passes t m) e (every_passes (suc k) ts)
    where
      go : (p : Bool) → cond (not p) (Err (OfState t)) (first_failing (call_fails m a) (map OfState ts)) ≡ Ok tt
          → (first_failing (call_fails m a) (map OfState ts) ≡ Ok tt → every (λ i u. passes u m) (suc k) ts ≡ true)
          → p && every (λ i u. passes u m) (suc k) ts ≡ true
      go true q r = r q
      go false q r = absurd (passes_never (sym q))

  pub sound_state : state_finds m a ≡ Ok tt → sound m ≡ true
  unfolding state_finds sound
  sound_state e = every_passes 0 soundness_tests e

  -- What is lent.

  pub right_lent : lent_finds m a ≡ Ok tt → WellLent a
  unfolding lent_finds first_failing
  right_lent e =
      go (ltb a.room (reply_room longest_sent)) (eqb (length a.guk) 16) (eqb (length a.ak) 16) (eqb (length a.challenge) 8) refl refl refl refl e
    where
      go : (r g k c : Bool) → ltb a.room (reply_room longest_sent) ≡ r → eqb (length a.guk) 16 ≡ g → eqb (length a.ak) 16 ≡ k → eqb (length a.challenge) 8 ≡ c
          → ◌≡◌ {A = Finding} (cond r (Err (OfLent ReplyRoom)) (cond (not g) (Err (OfLent GukLength)) (cond (not k) (Err (OfLent AkLength)) (cond (not c) (Err (OfLent ChallengeLength)) (Ok tt))))) (Ok tt)
          → WellLent a
      go true g k c e₁ e₂ e₃ e₄ f = absurd (passes_never (sym f))
      go false false k c e₁ e₂ e₃ e₄ f = absurd (passes_never (sym f))
      go false true false c e₁ e₂ e₃ e₄ f = absurd (passes_never (sym f))
      go false true true false e₁ e₂ e₃ e₄ f = absurd (passes_never (sym f))
      go false true true true e₁ e₂ e₃ e₄ f = record { room = ltb-false _ _ e₁; guk = eqb-true _ _ e₂; ak = eqb-true _ _ e₃; challenge = eqb-true _ _ e₄ }

  -- The call.

  abbrev heard : Finding
  heard = heard_finds m.line m.body (secrets_of a) a.received (read_frame a.received)

  pub lent_found : {t : CallTest} → lent_finds m a ≡ Err t → Err t ≡ found m a
  unfolding road_finds
  lent_found e = sym (found_road m a ∙ ap (λ y. or_else y (or_else (state_finds m a) heard)) e)

  module _ (e : lent_finds m a ≡ Ok tt) where
    past_lent : found m a ≡ or_else (state_finds m a) heard
    unfolding road_finds
    past_lent = found_road m a ∙ ap (λ y. or_else y (or_else (state_finds m a) heard)) e

    pub unsound_found : {t : CallTest} → state_finds m a ≡ Err t → Err t ≡ found m a
    unsound_found f = sym (past_lent ∙ ap (λ y. or_else y heard) f)

    pub heard_found : {x : Finding} → state_finds m a ≡ Ok tt → x ≡ heard → x ≡ found m a
    heard_found f g = g ∙ sym (past_lent ∙ ap (λ y. or_else y heard) f)
