-- From what a request comes to and the bytes that were written, to the model's Turn.
use mathlib.Core.Path.{◌≡◌, refl, sym, ◌∙◌}
use mathlib.Core.List.{List, [], ◌∷◌}
use Prim.Native.Nat.{ℕ, ◌≤◌}
use native.Mathlib.Omega.{arith}
use lib.ListN.{length}
use Rattle.wire.specs.Wrote.{Wrote}
use Rattle.model.specs.Limits.{longest_sent, data_room}
use Rattle.model.specs.State.{Transfer, Body}
use Rattle.model.specs.Selecting.{Selection}
use Rattle.model.specs.Objects.{Meaning, known, unknown, meaning, ask, turned, Parameter, get, action, Request, granted, begun, denied, attribute_read, method_invoked, block_answer, after_read, after_action, Turn, answered}
use Rattle.model.proofs.LimitFacts.{data_room_lem, text_room_lem}
use Rattle.model.proofs.BlockLaws.{answer_fits}
use Rattle.cosem.specs.declared.Wanted.{Wanted}
use Rattle.cosem.specs.Requests.{service_in}
use Rattle.body.specs.declared.BodyState.{BodyState}
use Rattle.body.specs.Change.{changed_by}
use Rattle.body.specs.View.{body_of}
use Rattle.objects.specs.declared.Query.{Query}
use Rattle.objects.specs.Meanings.{request_as}
use Rattle.answers.specs.declared.Turned.{Turned}
use Rattle.answers.specs.Promise.{Turns}

-- where an ACTION is denied the body is as it was
after_denied : (w : Meaning) (b : Body) (c : ℕ) → b ≡ after_action w b (denied c)
after_denied unknown b c = refl
after_denied (known o) b c = refl

-- what one turn promises, by another that is the same
pub turns_by : {t u : Turn} {b : BodyState} {l m : List ℕ} {at : ℕ} {r : Turned} → t ≡ u → Turns u b l at m r → Turns t b l at m r
turns_by e f = rw e f

-- what was asked, by what is wanted and what the name means
pub asked_is : (q : Query) (s : List ℕ) (b : Body) {m : Meaning} {v w : Wanted} → v ≡ w → m ≡ meaning q.client q.name b.store.registers
    → turned (ask (request_as q (service_in s v))) b ≡ answered (request_as q (service_in s w)) b m (service_in s w)
unfolding turned
asked_is q s b e f = rw (← e, f)

module _ (q : Request) (x : BodyState) (w : Meaning) {l m : List ℕ} {at : ℕ} (r : Turned) where
  -- a read, by what it comes to: the body becomes the one after it
  module _ (a : ℕ) (s : Selection) where
    pub read_granted : (d : List ℕ) → granted d ≡ attribute_read q a s (body_of x) w → length d ≤ data_room longest_sent → r.refusal ≡ 0
        → Wrote l at m r.next (0xC4 ∷ 0x01 ∷ q.invoke ∷ 0x00 ∷ d) → body_of (changed_by r.change x) ≡ after_read q.client (granted d) (body_of x) → Turns (answered q (body_of x) w (get a s)) x l at m r
    read_granted d g h n o e =
        rw (sym g) (record { refusal = n; wrote = o; short = omega (arith, o.next, data_room_lem, text_room_lem); body = e })

    pub read_begun : (t : Transfer) (d : List ℕ) → begun t d ≡ attribute_read q a s (body_of x) w → r.refusal ≡ 0
        → Wrote l at m r.next (block_answer q.invoke 1 d) → body_of (changed_by r.change x) ≡ after_read q.client (begun t d) (body_of x) → Turns (answered q (body_of x) w (get a s)) x l at m r
    read_begun t d g n o e = rw (sym g) (record { refusal = n; wrote = o; short = omega (arith, o.next, answer_fits q.invoke 1 d); body = e })

    pub read_denied : (c : ℕ) → denied c ≡ attribute_read q a s (body_of x) w → r.refusal ≡ 13 → Wrote l at m r.next (0xC4 ∷ 0x01 ∷ q.invoke ∷ 0x01 ∷ c ∷ [])
        → body_of (changed_by r.change x) ≡ after_read q.client (denied c) (body_of x) → Turns (answered q (body_of x) w (get a s)) x l at m r
    read_denied c g n o e = rw (sym g) (record { refusal = n; wrote = o; short = omega (arith, o.next, text_room_lem); body = e })

  module _ (k : ℕ) (v : Parameter) where
    pub method_granted : (d : List ℕ) → granted d ≡ method_invoked q k v w → r.refusal ≡ 0 → Wrote l at m r.next (0xC7 ∷ 0x01 ∷ q.invoke ∷ 0x00 ∷ 0x00 ∷ [])
        → body_of (changed_by r.change x) ≡ after_action w (body_of x) (granted d) → Turns (answered q (body_of x) w (action k v)) x l at m r
    method_granted d g n o e = rw (sym g) (record { refusal = n; wrote = o; short = omega (arith, o.next, text_room_lem); body = e })

    pub method_denied : (c : ℕ) → denied c ≡ method_invoked q k v w → r.refusal ≡ 13 → Wrote l at m r.next (0xC7 ∷ 0x01 ∷ q.invoke ∷ c ∷ 0x00 ∷ [])
        → body_of (changed_by r.change x) ≡ body_of x → Turns (answered q (body_of x) w (action k v)) x l at m r
    method_denied c g n o e = rw (sym g) (record { refusal = n; wrote = o; short = omega (arith, o.next, text_room_lem); body = e ∙ after_denied w (body_of x) c })
