-- What the body answers what is asked of it: granted, or denied with a result code and of the body the transfer alone moved; and that it
-- fits an envelope.
use mathlib.Core.Path.{◌≡◌, refl, sym, subst}
use mathlib.Core.Bool.{Bool, not, ◌&&◌}
use mathlib.Core.List.{List}
use Prim.Native.Nat.{ℕ, ◌+◌, ◌≤◌, ◌<◌}
use native.Mathlib.Omega.{arith}
use lib.Dec.{eqb, leb}
use lib.ListN.{length}
use borrow.Author.Tests.{leb-true}
use Rattle.model.specs.declared.Client.{Client}
use Rattle.model.specs.declared.Client.TheVariants.{Verification, Ciphering}
use Rattle.model.specs.declared.CipherClient.{CipherClient}
use Rattle.model.specs.declared.CipherClient.TheVariants.{Han}
use Rattle.model.specs.declared.Name.{Name}
use Rattle.model.specs.Limits.{longest_sent, text_room, data_room}
use Rattle.model.specs.State.{Transfer, idle, running, ended, runs, Body}
use Rattle.model.specs.Selecting.{Selection, described}
use Rattle.model.specs.Objects.{Content, Meaning, known, unknown, meaning, serves, Service, get, action, Request, Inquiry, ask, go_on, Result, granted, begun, denied, Picked, these, wrong, attribute_data, takes_selector, selected_rows, begins, fitting, shown, attribute_read, method_invoked, block_answer, long_data, Turn, refusal_of, get_answer, after_read, action_answer, after_action, answered, continued, turned}
use Rattle.model.proofs.LimitFacts.{text_room_lem, data_room_lem}
use Rattle.model.proofs.ListLaws.{by_test}
use Rattle.model.proofs.BlockLaws.{answer_fits, refused_fits}
use Rattle.cosem.specs.declared.ServiceKind.{ServiceKind}
use Rattle.cosem.specs.declared.ServiceKind.TheVariants.{Get, Action}
use Rattle.protocol.specs.Outcomes.{Denial, read, block, action as acted, after_denial}
use Rattle.protocol.proofs.KindLaws.{kind_of, action_no_get}

-- Granted or denied.

-- to a request of this service, of H
pub data Turning (k : ServiceKind) (b : Body) (t : Turn) : Type 0 where
  grants : t.refusal ≡ 0 → Turning k b t
  denies : {forgets : Bool} → t.refusal ≡ 13 → t.body ≡ after_denial forgets b → Denial k t.bytes forgets → Turning k b t

-- a read, by its client
abbrev read_turn : Client → Body → (invoke : ℕ) → Result → Turn
read_turn c b invoke r = record { refusal = refusal_of r; bytes = get_answer invoke r; body = after_read c r b }

read_turning : (b : Body) (invoke : ℕ) (r : Result) → Turning Get b (read_turn (Ciphering Han) b invoke r)
read_turning b invoke (granted d) = grants refl
read_turning b invoke (begun t d) = grants refl
read_turning b invoke (denied k) = denies refl refl (read invoke k)

action_turning : (b : Body) (invoke : ℕ) (w : Meaning) (r : Result) → Turning Action b (record { refusal = refusal_of r; bytes = action_answer invoke r; body = after_action w b r })
action_turning b invoke w (granted d) = grants refl
action_turning b invoke w (begun t d) = grants refl
action_turning b invoke unknown (denied k) = denies refl refl (acted invoke k)
action_turning b invoke (known o) (denied k) = denies refl refl (acted invoke k)

pub turning : (q : Request) (c : CipherClient) (b : Body) → q.client ≡ Ciphering c → Turning (kind_of q.service) b (turned (ask q) b)
unfolding turned
turning q Han b e = go (meaning q.client q.name b.store.registers) q.service
  where
    go : (w : Meaning) (v : Service) → Turning (kind_of v) b (answered q b w v)
    go w (get a s) = subst (λ (c : Client). Turning Get b (read_turn c b q.invoke (attribute_read q a s b w))) (sym e) (read_turning b q.invoke (attribute_read q a s b w))
    go w (action k v) = action_turning b q.invoke w (method_invoked q k v w)

-- to a numbered request
pub next_turning : (invoke number : ℕ) (b : Body) → Turning Get b (turned (go_on invoke number) b)
unfolding turned
next_turning i n b = go b.transfer
  where
    go : (t : Transfer) → Turning Get b (continued i n b t)
    go idle = denies refl refl (block i n 16)
    go (running x k) = by_test (Turning Get b) (eqb n k) (λ _. grants refl) (λ _. denies refl refl (block i n 19))
    go ended = denies refl refl (block i n 15)

-- to a GET of V, which moves nothing
pub data PlainTurning (b : Body) (t : Turn) : Type 0 where
  plain_grants : t.refusal ≡ 0 → PlainTurning b t
  plain_denies : (invoke code : ℕ) → t ≡ record { refusal = 13; bytes = get_answer invoke (denied code); body = b } → PlainTurning b t

pub plain_turning : (q : Request) (b : Body) → q.client ≡ Verification → kind_of q.service ≡ Get → PlainTurning b (turned (ask q) b)
unfolding turned
plain_turning q b e = go (meaning q.client q.name b.store.registers) q.service
  where
    by_result : (r : Result) → PlainTurning b (read_turn Verification b q.invoke r)
    by_result (granted d) = plain_grants refl
    by_result (begun t d) = plain_grants refl
    by_result (denied k) = plain_denies q.invoke k refl

    go : (w : Meaning) (v : Service) → kind_of v ≡ Get → PlainTurning b (answered q b w v)
    go w (get a s) f = subst (λ (c : Client). PlainTurning b (read_turn c b q.invoke (attribute_read q a s b w))) (sym e) (by_result (attribute_read q a s b w))
    go w (action k v) f = absurd (action_no_get f)

-- Its length.

-- whole data that fit; a block fits whatever the data
abbrev pub Sized : Result → Type 0
Sized (granted d) = length d ≤ data_room longest_sent
Sized (begun t d) = Unit {0}
Sized (denied c) = Unit {0}

sized_fitting : (blocks : Bool) (t : Transfer) (d : List ℕ) → Sized (fitting blocks t d)
unfolding fitting
sized_fitting blocks t d =
    by_test Sized (leb (length d) (data_room longest_sent)) (λ e. leb-true _ _ e) λ _.
    by_test Sized (blocks && runs t) (λ _. tt) (λ _. tt)

sized_shown : (blocks : Bool) (t : Transfer) (x : Content) (n : Name) (a : ℕ) (b : Body) (p : Picked) → Sized (shown blocks t x n a b p)
sized_shown blocks t x n a b (these rs) = sized_fitting blocks t (attribute_data x n a rs b)
sized_shown blocks t x n a b (wrong c) = tt

sized_read : (q : Request) (a : ℕ) (s : Selection) (b : Body) (w : Meaning) → Sized (attribute_read q a s b w)
unfolding attribute_read
sized_read q a s b unknown = tt
sized_read q a s b (known o) =
    by_test Sized (not (eqb q.class o.class)) (λ _. tt) λ _.
    by_test Sized (not (serves o.attributes a)) (λ _. tt) λ _.
    (let selective = takes_selector o.content a && q.selective in
    sized_shown q.blocks (begins o.content a (described selective s)) o.content q.name a b (selected_rows selective s b.store.rows))

pub read_fits : (invoke : ℕ) (r : Result) → Sized r → length (get_answer invoke r) ≤ text_room longest_sent
read_fits invoke (granted d) h = omega (arith, text_room_lem, data_room_lem)
read_fits invoke (begun t d) h = answer_fits invoke 1 d
read_fits invoke (denied c) h = omega (arith, text_room_lem)

action_fits : (invoke : ℕ) (r : Result) → length (action_answer invoke r) ≤ text_room longest_sent
action_fits invoke (granted d) = omega (arith, text_room_lem)
action_fits invoke (begun t d) = omega (arith, text_room_lem)
action_fits invoke (denied c) = omega (arith, text_room_lem)

-- and some bytes it has
block_some : (invoke k : ℕ) (d : List ℕ) → 0 < length (block_answer invoke k d)
unfolding block_answer
block_some invoke k d = omega arith

read_some : (invoke : ℕ) (r : Result) → 0 < length (get_answer invoke r)
read_some invoke (granted d) = omega arith
read_some invoke (begun t d) = block_some invoke 1 d
read_some invoke (denied c) = omega arith

action_some : (invoke : ℕ) (r : Result) → 0 < length (action_answer invoke r)
action_some invoke (granted d) = omega arith
action_some invoke (begun t d) = omega arith
action_some invoke (denied c) = omega arith

pub turned_some : (q : Inquiry) (b : Body) → 0 < length (turned q b).bytes
unfolding turned
turned_some (ask q) b = go (meaning q.client q.name b.store.registers) q.service
  where
    go : (w : Meaning) (v : Service) → 0 < length (answered q b w v).bytes
    go w (get a s) = read_some q.invoke (attribute_read q a s b w)
    go w (action k v) = action_some q.invoke (method_invoked q k v w)
turned_some (go_on i n) b = go b.transfer
  where
    go : (t : Transfer) → 0 < length (continued i n b t).bytes
    go idle = omega arith
    go (running x k) = by_test (λ (u : Turn). 0 < length u.bytes) (eqb n k) (λ _. block_some i (k + 1) (long_data x b.store)) (λ _. omega arith)
    go ended = omega arith

pub turned_fits : (q : Inquiry) (b : Body) → length (turned q b).bytes ≤ text_room longest_sent
unfolding turned
turned_fits (ask q) b = go (meaning q.client q.name b.store.registers) q.service
  where
    go : (w : Meaning) (v : Service) → length (answered q b w v).bytes ≤ text_room longest_sent
    go w (get a s) = read_fits q.invoke (attribute_read q a s b w) (sized_read q a s b w)
    go w (action k v) = action_fits q.invoke (method_invoked q k v w)
turned_fits (go_on i n) b = go b.transfer
  where
    go : (t : Transfer) → length (continued i n b t).bytes ≤ text_room longest_sent
    go idle = refused_fits i n 16
    go (running x k) = by_test (λ (u : Turn). length u.bytes ≤ text_room longest_sent) (eqb n k) (λ _. answer_fits i (k + 1) (long_data x b.store)) (λ _. refused_fits i n 19)
    go ended = refused_fits i n 15
