-- Transfers over calls: what refuses a numbered request, what each call leaves of a transfer, what ends one, what forgets it, and what
-- leaves it. The statements on them of specs/Blocks, proved.
use mathlib.Core.Path.{◌≡◌, refl, sym, ◌∙◌, ap}
use mathlib.Core.Bool.{Bool, true, false, cond, not, ◌&&◌, false≢true}
use mathlib.Core.Logic.{◌⊎◌, inl, inr}
use mathlib.Core.List.{List}
use Prim.Native.Nat.{ℕ, ◌+◌}
use native.Mathlib.Omega.{arith}
use lib.ListN.{length}
use lib.Dec.{eqb, leb}
use borrow.Author.Tests.{eqb-true, eq-eqb}
use Rattle.wire.specs.Reading.{same_bytes}
use Rattle.model.specs.declared.Name.{Name}
use Rattle.model.specs.declared.Client.{Client}
use Rattle.model.specs.declared.Client.TheVariants.{Verification, Ciphering}
use Rattle.model.specs.declared.CipherClient.TheVariants.{Han}
use Rattle.model.specs.Limits.{longest_sent, data_room}
use Rattle.model.specs.Names.{same_name}
use Rattle.model.specs.Clocks.{valid_clock}
use Rattle.model.specs.Periods.{capture_due}
use Rattle.model.specs.Selecting.{Selection, described}
use Rattle.model.specs.State.{Line, Entry, Store, Long, Transfer, idle, running, ended, runs, broken, Body, Model, with_body, with_clock, with_transfer}
use Rattle.model.specs.Objects.{own, device_object, profile_named, Content, simple, rows, record_number, register, Meaning, known, unknown, Object, meaning, serves, Parameter, Service, get, action, Request, Inquiry, ask, go_on, Result, granted, begun, denied, rows_data, attribute_data, Picked, these, wrong, takes_selector, selected_rows, begins_with, begins, fitting, shown, attribute_read, good_parameter, method_invoked, after_method, block, is_last, long_data, went_out, Turn, refusal_of, get_answer, transfer_after, after_read, after_action, answered, refused_turn, next_turn, continued, turned}
use Rattle.model.specs.Soundness.{accepted_registers, accepted_columns, takes_blocks, could_ask, allowed, sound}
use Rattle.model.specs.Calls.{Lent, Call, frame, owner, OwnerCall, own_refusal, obeyed, give_registers, set_value, set_columns, set_period, tick, set_p5, power_up, Outcome, refused, done, Wrap, Decision, answer, serve, Protocol, decided, kept_by, settled, settles, captured, ticked, act, early, step}
use Rattle.model.specs.Blocks.{FirstBlock, NextBlock, NumberedRefused, BringsOtherRows, captures, columns, registers, EndsTransfers, BeginsAnother, ForgetsTransfers, LeavesTransfers, table_of, LeftOfTransfer, stopped, unmoved, moved, began, TransfersAreReads}
use Rattle.model.proofs.ListLaws.{both, by_test, passed}
use Rattle.model.proofs.NameLaws.{same_name_lem}
use Rattle.model.proofs.ObjectLaws.{Tells, Means, meaning_tells}
use Rattle.model.proofs.BlockLaws.{answer_bytes, bytes_only, first_more, first_bytes}
use Rattle.model.proofs.TransferLaws.{Begins, read_begins, goes_on_lem}
use Rattle.model.proofs.StaySound.{settled_stays}

-- Numbered requests that are refused.

pub numbered_refused : NumberedRefused
unfolding turned
numbered_refused =
    record {
      meanwhile = λ i n b e. rw e;
      none_runs = λ i n b e. rw e;
      wrong_number = λ i n x k b e f. rw (e, f);
    }

-- A call that is not refused before it acts.

acted : (p : Protocol) (c : Call) (m : Model) → eqb (early c) 0 ≡ true → sound m ≡ true → step p c m ≡ act p c m
unfolding step
acted p c m e s = rw (e, s)

-- one that answers 0
pub granted_acts : (p : Protocol) (c : Call) (m : Model) → (step p c m).refusal ≡ 0 → step p c m ≡ act p c m
unfolding step
granted_acts p c m = go (eqb (early c) 0) refl (sound m)
  where
    go : (a : Bool) → eqb (early c) 0 ≡ a → (s : Bool) → (cond a (cond s (act p c m) (refused 3 m)) (refused (early c) m)).refusal ≡ 0
        → cond a (cond s (act p c m) (refused 3 m)) (refused (early c) m) ≡ act p c m
    go true e true z = refl
    go true e false z = absurd (omega (arith, z))
    go false e s z = absurd (false≢true (sym e ∙ eq-eqb (early c) 0 z))

-- a frame that asks something of the body
pub frame_acts : (p : Protocol) (a : Lent) (m : Model) (q : Inquiry) (w : Wrap) (l : Line) → p.decide m.line a ≡ serve q w l
    → act p (frame a) m ≡ settles (decided p (serve q w l) m)
unfolding act
frame_acts p a m q w l e = ap (λ (d : Decision). settles (decided p d m)) e

-- A read that begins a transfer: what it reads, by its request.

module _ (q : Request) (a : ℕ) (s : Selection) (b : Body) where
  pub record LongRead (d : List ℕ) : Type 0 where
    pub attribute : a ≡ 2
    pub name : same_name profile_named q.name ≡ true
    pub rows : List Entry
    pub picks : selected_rows q.selective s b.store.rows ≡ these rows
    pub same : rows_data rows ≡ d

  abbrev IsLong : Result → Type 0
  IsLong (granted d) = Unit {0}
  IsLong (begun t d) = LongRead d
  IsLong (denied c) = Unit {0}

  long_fitting : (t : Transfer) (d : List ℕ) → (runs t ≡ true → LongRead d) → IsLong (fitting q.blocks t d)
  unfolding fitting
  long_fitting t d h =
      by_test IsLong (leb (length d) (data_room longest_sent)) (λ _. tt) λ _.
      by_test IsLong (q.blocks && runs t) (λ f. h (both q.blocks (runs t) f).1) λ _.
      tt

  long_idle : (d : List ℕ) → IsLong (fitting q.blocks idle d)
  long_idle d = long_fitting idle d (λ f. absurd (false≢true f))

  long_rows_lem : (t : Transfer) (rs : List Entry) → same_name profile_named q.name ≡ true → selected_rows (eqb a 2 && q.selective) s b.store.rows ≡ these rs
      → IsLong (fitting q.blocks (cond (eqb a 2) t idle) (attribute_data rows q.name a rs b))
  unfolding attribute_data
  long_rows_lem t rs n e = go (eqb a 2) refl
    where
      go : (c : Bool) → eqb a 2 ≡ c → IsLong (fitting q.blocks (cond c t idle) (attribute_data rows q.name a rs b))
      go false f = long_idle _
      go true f =
          long_fitting t (attribute_data rows q.name a rs b)
          (λ _.
          record {
            attribute = eqb-true a 2 f;
            name = n;
            rows = rs;
            picks = rw f at e;
            same = sym (ap (λ (j : ℕ). attribute_data rows q.name j rs b) (eqb-true a 2 f));
          })

  long_shown : (x : Content) (w : Picked) → Tells x q.name b.store.registers → selected_rows (takes_selector x a && q.selective) s b.store.rows ≡ w
      → IsLong (shown q.blocks (begins x a (described (takes_selector x a && q.selective) s)) x q.name a b w)
  long_shown x (wrong c) n e = tt
  long_shown (simple y) (these rs) n e = long_idle _
  long_shown rows (these rs) n e = long_rows_lem (begins_with (described (eqb a 2 && q.selective) s)) rs n e
  long_shown record_number (these rs) n e = long_idle _
  long_shown (register r) (these rs) n e = long_idle _

  long_read : (w : Meaning) → Means w q.name b.store.registers → IsLong (attribute_read q a s b w)
  unfolding attribute_read
  long_read unknown n = tt
  long_read (known o) n =
      by_test IsLong (not (eqb q.class o.class)) (λ _. tt) λ _.
      by_test IsLong (not (serves o.attributes a)) (λ _. tt) λ _.
      long_shown o.content _ n refl

-- what a GET comes to
abbrev pub read_result : Request → ℕ → Selection → Body → Result
read_result q a s b = attribute_read q a s b (meaning q.client q.name b.store.registers)

pub asked_turned : (q : Request) (v : Service) (b : Body) → q.service ≡ v → turned (ask q) b ≡ answered q b (meaning q.client q.name b.store.registers) v
unfolding turned
asked_turned q v b e = ap (answered q b (meaning q.client q.name b.store.registers)) e

-- what a read begins, and the read
pub record BeganBy (q : Request) (a : ℕ) (s : Selection) (b : Body) (t : Transfer) (d : List ℕ) : Type 0 where
  pub begins : Begins q.selective q.blocks b.store t d
  pub long : LongRead q a s b d

pub began_by : (q : Request) (a : ℕ) (s : Selection) (b : Body) (t : Transfer) (d : List ℕ) → read_result q a s b ≡ begun t d → BeganBy q a s b t d
began_by q a s b t d e =
    let w = meaning q.client q.name b.store.registers in
    record {
      begins = rw e at (read_begins q a s b w);
      long = rw e at (long_read q a s b w (meaning_tells q.client q.name b.store.registers));
    }

-- the first of its blocks is not the last
pub first_of_more : {selective blocks : Bool} {s : Store} {t : Transfer} {d : List ℕ} → Begins selective blocks s t d → is_last 1 d ≡ false
first_of_more {d = d} h = first_more d h.long

-- What each call leaves of a transfer.

broken_stopped : (t : Transfer) → runs (broken t) ≡ false
broken_stopped idle = refl
broken_stopped (running x k) = refl
broken_stopped ended = refl

module _ (p : Protocol) (m : Model) where
  owner_after : (o : OwnerCall) → LeftOfTransfer p (owner o) m (done (obeyed o m))
  unfolding ticked captured
  owner_after (give_registers rs) = stopped (broken_stopped m.body.transfer)
  owner_after (set_value n v) = unmoved refl refl
  owner_after (set_columns cs) = stopped (broken_stopped m.body.transfer)
  owner_after (set_period d) = unmoved refl refl
  owner_after (tick t) =
      by_test (λ (b : Body). LeftOfTransfer p (owner (tick t)) m (done (with_body (with_clock t b) m))) (capture_due m.body.period t)
      (λ _. stopped (broken_stopped m.body.transfer)) (λ _. unmoved refl refl)
  owner_after (set_p5 f) = unmoved refl refl
  owner_after power_up = stopped refl

  -- the line after a frame leaves what the body left, or no transfer
  kept_after : (c : Call) (o : Outcome)
      → ((r : Outcome) → r.next.body.transfer ≡ o.next.body.transfer → table_of r.next.body ≡ table_of o.next.body → LeftOfTransfer p c m r)
      → LeftOfTransfer p c m (settles o)
  kept_after c o h = go (allowed o.next.line o.next.body.transfer) refl
    where
      go : (a : Bool) → allowed o.next.line o.next.body.transfer ≡ a → LeftOfTransfer p c m (settles o)
      go true e = h (settles o) (ap (λ (a : Bool). cond a o.next.body.transfer idle) e) refl
      go false e = stopped (ap (λ (a : Bool). runs (cond a o.next.body.transfer idle)) e)

  action_after : (c : Call) (w : Meaning) (r : Result) (o : Outcome) → o.next.body.transfer ≡ (after_action w m.body r).transfer
      → table_of o.next.body ≡ table_of (after_action w m.body r) → LeftOfTransfer p c m o
  action_after c unknown r o f h = unmoved f h
  action_after c (known x) (granted d) o f h = go x.content f h
    where
      go : (y : Content) → o.next.body.transfer ≡ (after_method y m.body).transfer → table_of o.next.body ≡ table_of (after_method y m.body)
          → LeftOfTransfer p c m o
      go (simple z) f h = unmoved f h
      go rows f h = stopped (ap runs f ∙ broken_stopped m.body.transfer)
      go record_number f h = unmoved f h
      go (register r) f h = unmoved f h
  action_after c (known x) (begun t d) o f h = unmoved f h
  action_after c (known x) (denied d) o f h = unmoved f h

  -- a frame that acts
  module _ (a : Lent) (w : Wrap) (l : Line) (acts : step p (frame a) m ≡ act p (frame a) m) where
    module _ (q : Request) (d : p.decide m.line a ≡ serve (ask q) w l) where
      -- it comes to what the body answers
      asked : step p (frame a) m ≡ settles (decided p (serve (ask q) w l) m)
      asked = acts ∙ frame_acts p a m (ask q) w l d

      first_block : (k : ℕ) (s : Selection) (t : Transfer) (xs : List ℕ) → q.client ≡ Ciphering Han → q.service ≡ get k s → read_result q k s m.body ≡ begun t xs
          → (g : BeganBy q k s m.body t xs) → FirstBlock p (frame a) m g.long.rows (block 1 xs)
      first_block k s t xs c e r g =
          let u = asked_turned q (get k s) m.body e in
          record {
            lent = a;
            request = q;
            wrap = w;
            line = l;
            selection = s;
            call = refl;
            decided = d;
            client = c;
            service = e ∙ ap (λ (j : ℕ). get j s) g.long.attribute;
            name = g.long.name;
            picks = g.long.picks;
            granted = ap (λ (o : Outcome). o.refusal) asked ∙ ap (λ (v : Turn). v.refusal) u ∙ ap refusal_of r;
            bytes =
                ap (λ (v : Turn). v.bytes) u ∙ ap (get_answer q.invoke) r ∙ first_bytes q.invoke xs g.begins.long;
            sent = ap (λ (o : Outcome). o.sent) asked;
          }

      read_after : (k : ℕ) (s : Selection) (c : Client) (r : Result) (o : Outcome) → q.client ≡ c → q.service ≡ get k s → read_result q k s m.body ≡ r
          → o.next.body.transfer ≡ (after_read c r m.body).transfer → table_of o.next.body ≡ table_of (after_read c r m.body) → LeftOfTransfer p (frame a) m o
      read_after k s Verification r o c e i f h = unmoved f h
      read_after k s (Ciphering Han) (granted x) o c e i f h = stopped (ap runs f)
      read_after k s (Ciphering Han) (begun t xs) o c e i f h =
          let g = began_by q k s m.body t xs i in
          began g.begins.read g.long.rows (block 1 xs) (f ∙ g.begins.transfer) (first_block k s t xs c e i g)
      read_after k s (Ciphering Han) (denied x) o c e i f h = stopped (ap runs f)

      asked_after : (v : Service) (o : Outcome) → q.service ≡ v
          → o.next.body.transfer ≡ (answered q m.body (meaning q.client q.name m.body.store.registers) v).body.transfer
          → table_of o.next.body ≡ table_of (answered q m.body (meaning q.client q.name m.body.store.registers) v).body → LeftOfTransfer p (frame a) m o
      asked_after (get k s) o e f h = read_after k s q.client (read_result q k s m.body) o refl e refl f h
      asked_after (action k v) o e f h =
          action_after (frame a) (meaning q.client q.name m.body.store.registers) (method_invoked q k v (meaning q.client q.name m.body.store.registers)) o f h

    next_after : (i n : ℕ) → p.decide m.line a ≡ serve (go_on i n) w l → (t : Transfer) (o : Outcome) → m.body.transfer ≡ t
        → o.next.body.transfer ≡ (continued i n m.body t).body.transfer → table_of o.next.body ≡ table_of (continued i n m.body t).body
        → LeftOfTransfer p (frame a) m o
    next_after i n d idle o e f h = stopped (ap runs f)
    next_after i n d (running x k) o e f h = go (eqb n k) refl f h
      where
        xs : List ℕ
        xs = long_data x m.body.store

        next_block : n ≡ k → NextBlock p (frame a) m (cond (is_last (k + 1) xs) 0x01 0x00) k (block (k + 1) xs)
        next_block j =
            let g : p.decide m.line a ≡ serve (go_on i k) w l = d ∙ ap (λ (c : ℕ). serve (go_on i c) w l) j in
            let u = acts ∙ frame_acts p a m (go_on i k) w l g in
            let v = goes_on_lem i k x m.body e in
            record {
              lent = a;
              invoke = i;
              wrap = w;
              line = l;
              call = refl;
              decided = g;
              granted = ap (λ (r : Outcome). r.refusal) u ∙ ap (λ (r : Turn). r.refusal) v;
              bytes = ap (λ (r : Turn). r.bytes) v ∙ answer_bytes i (k + 1) xs;
              sent = ap (λ (r : Outcome). r.sent) u;
            }

        more : (b : Bool) → is_last (k + 1) xs ≡ b → n ≡ k → o.next.body.transfer ≡ cond b idle (running x (k + 1)) → table_of o.next.body ≡ table_of m.body → LeftOfTransfer p (frame a) m o
        more true z j f h = stopped (ap runs f)
        more false z j f h = moved x k (block (k + 1) xs) e f h (rw z at (next_block j))

        go : (c : Bool) → eqb n k ≡ c → o.next.body.transfer ≡ (cond c (next_turn i x k m.body) (refused_turn i n 19 m.body)).body.transfer
            → table_of o.next.body ≡ table_of (cond c (next_turn i x k m.body) (refused_turn i n 19 m.body)).body → LeftOfTransfer p (frame a) m o
        go true j f h = more (is_last (k + 1) xs) refl (eqb-true n k j) f h
        go false j f h = stopped (ap runs f)
    next_after i n d ended o e f h = stopped (ap runs f)

  act_after : (c : Call) → step p c m ≡ act p c m → LeftOfTransfer p c m (act p c m)
  unfolding act turned
  act_after (frame a) acts = go (p.decide m.line a) refl
    where
      go : (d : Decision) → p.decide m.line a ≡ d → LeftOfTransfer p (frame a) m (settles (decided p d m))
      go (answer s) e = kept_after (frame a) (decided p (answer s) m) (λ r f h. unmoved f h)
      go (serve (ask q) w l) e = kept_after (frame a) (decided p (serve (ask q) w l) m) (λ r f h. asked_after a w l acts q e q.service r refl f h)
      go (serve (go_on i n) w l) e = kept_after (frame a) (decided p (serve (go_on i n) w l) m) (λ r f h. next_after a w l acts i n e m.body.transfer r refl f h)
  act_after (owner o) acts = by_test (LeftOfTransfer p (owner o) m) (eqb (own_refusal o m) 0) (λ _. owner_after o) (λ _. unmoved refl refl)

pub transfers_are_reads : (p : Protocol) → TransfersAreReads p
unfolding step
transfers_are_reads p c m =
    by_test (LeftOfTransfer p c m) (eqb (early c) 0)
    (λ e. by_test (LeftOfTransfer p c m) (sound m) (λ s. act_after p m c (acted p c m e s)) (λ _. unmoved refl refl))
    (λ _. unmoved refl refl)

-- What ends a transfer.

broken_ended : (t : Transfer) → runs t ≡ true → broken t ≡ ended
broken_ended idle r = absurd (false≢true r)
broken_ended (running x k) r = refl
broken_ended ended r = refl

module _ (p : Protocol) (m : Model) (s : sound m ≡ true) (r : runs m.body.transfer ≡ true) where
  owner_ends : (o : OwnerCall) → BringsOtherRows m o → (step p (owner o) m).next.body.transfer ≡ ended
  unfolding step act ticked captured
  owner_ends o (captures t v d) = rw (s, v, d) (broken_ended m.body.transfer r)
  owner_ends o (columns cs v) = rw (s, v) (broken_ended m.body.transfer r)
  owner_ends o (registers rs v) = rw (s, v) (broken_ended m.body.transfer r)

module _ (q : Request) (k : ℕ) (v : Parameter) (b : Body) (r : runs b.transfer ≡ true) where
  abbrev Reset : Meaning → Result → Type 0
  Reset w x = refusal_of x ≡ 0 → (after_action w b x).transfer ≡ ended

  refused_reset : (w : Meaning) (c : ℕ) → Reset w (denied c)
  refused_reset w c z = absurd (omega (arith, z))

  rows_reset : (o : Object) → o.content ≡ rows → Reset (known o) (method_invoked q k v (known o))
  unfolding method_invoked
  rows_reset o e =
      by_test (Reset (known o)) (not (eqb q.class o.class)) (λ _. refused_reset (known o) 9) λ _.
      by_test (Reset (known o)) (not (serves o.methods k)) (λ _. refused_reset (known o) 3) λ _.
      by_test (Reset (known o)) (good_parameter v) (λ _ _. ap (λ (x : Content). (after_method x b).transfer) e ∙ broken_ended b.transfer r) (λ _. refused_reset (known o) 12)

  -- the profile's name means the profile, or nothing
  named_reset : (c : Client) → Reset (meaning c profile_named b.store.registers) (method_invoked q k v (meaning c profile_named b.store.registers))
  unfolding method_invoked same_bytes
  named_reset Verification = refused_reset unknown 4
  named_reset (Ciphering Han) = rows_reset (own profile_named 7 2 1 rows).object refl

  reset_ends : q.service ≡ action k v → same_name profile_named q.name ≡ true → (turned (ask q) b).refusal ≡ 0 → (turned (ask q) b).body.transfer ≡ ended
  reset_ends e n z =
      let w = meaning q.client q.name b.store.registers in
      let f : w ≡ meaning q.client profile_named b.store.registers = ap (λ (x : Name). meaning q.client x b.store.registers) (sym (same_name_lem profile_named q.name n)) in
      let u = asked_turned q (action k v) b e in
      let h : Reset w (method_invoked q k v w) = rw f (named_reset q.client) in
      ap (λ (t : Turn). t.body.transfer) u ∙ h (sym (ap (λ (t : Turn). t.refusal) u) ∙ z)

pub ends_transfers : (p : Protocol) → EndsTransfers p
ends_transfers p = record { owner = λ o m s r h. owner_ends p m s r o h; reset = λ q k v b e n z r. reset_ends q k v b r e n z }

-- A numbered request that is answered by a block: the transfer that runs, and the block that comes next in it.

record Continues (i n : ℕ) (b : Body) (t : Transfer) (u : Turn) : Type 0 where
  read : Long
  was : t ≡ running read n
  is : u ≡ next_turn i read n b

continues : (i n : ℕ) (b : Body) (t : Transfer) → (continued i n b t).refusal ≡ 0 → Continues i n b t (continued i n b t)
continues i n b idle z = absurd (omega (arith, z))
continues i n b (running x k) z =
    by_test (λ (u : Turn). u.refusal ≡ 0 → Continues i n b (running x k) u) (eqb n k)
    (λ e _. let j = eqb-true n k e in record { read = x; was = ap (running x) (sym j); is = ap (λ (c : ℕ). next_turn i x c b) (sym j) })
    (λ _ f. absurd (omega (arith, f))) z
continues i n b ended z = absurd (omega (arith, z))

pub record WentOn (p : Protocol) (c : Call) (m : Model) (last k : ℕ) (piece : List ℕ) : Type 0 where
  pub read : Long
  pub line : Line
  pub was : m.body.transfer ≡ running read k
  pub marked : cond (is_last (k + 1) (long_data read m.body.store)) 0x01 0x00 ≡ last
  pub is : block (k + 1) (long_data read m.body.store) ≡ piece
  pub next : (step p c m).next.body ≡ with_transfer (kept_by line (went_out read (k + 1) (long_data read m.body.store))) m.body

pub went_on : (p : Protocol) (c : Call) (m : Model) (last k : ℕ) (piece : List ℕ) → NextBlock p c m last k piece → WentOn p c m last k piece
unfolding turned
went_on p c m last k piece h =
    let i = h.invoke in
    let u : step p c m ≡ settles (decided p (serve (go_on i k) h.wrap h.line) m) =
    granted_acts p c m h.granted ∙ ap (λ (x : Call). act p x m) h.call ∙ frame_acts p h.lent m (go_on i k) h.wrap h.line h.decided in
    let g = continues i k m.body m.body.transfer (sym (ap (λ (o : Outcome). o.refusal) u) ∙ h.granted) in
    let xs = long_data g.read m.body.store in
    let e = bytes_only i (cond (is_last (k + 1) xs) 0x01 0x00) last (k + 1) (block (k + 1) xs) piece (sym (answer_bytes i (k + 1) xs) ∙ sym (ap (λ (t : Turn). t.bytes) g.is) ∙ h.bytes) in
    record {
      read = g.read;
      line = h.line;
      was = g.was;
      marked = e.0;
      is = e.1;
      next = ap (λ (o : Outcome). o.next.body) u ∙ ap (λ (t : Turn). with_transfer (kept_by h.line t.body.transfer) t.body) g.is;
    }

pub marked_last : (b : Bool) → ◌≡◌ {A = ℕ} (cond b 0x01 0x00) 0x01 → b ≡ true
marked_last true e = refl
marked_last false e = absurd (omega (arith, e))

pub marked_more : (b : Bool) → ◌≡◌ {A = ℕ} (cond b 0x01 0x00) 0x00 → b ≡ false
marked_more true e = absurd (omega (arith, e))
marked_more false e = refl

-- What forgets a transfer.

kept_idle : (l : Line) → kept_by l idle ≡ idle
unfolding allowed
kept_idle l = refl

-- a line on which H takes no blocks keeps none
kept_none : (l : Line) (t : Transfer) → takes_blocks l ≡ false → kept_by l t ≡ idle
unfolding allowed
kept_none l idle e = refl
kept_none l (running x k) e = ap (λ (a : Bool). cond (a && could_ask x l) (running x k) idle) e
kept_none l ended e = ap (λ (a : Bool). cond a ended idle) e

module _ (p : Protocol) where
  last_forgets : (c : Call) (m : Model) (k : ℕ) (piece : List ℕ) → NextBlock p c m 0x01 k piece → (step p c m).next.body.transfer ≡ idle
  last_forgets c m k piece h =
      let g = went_on p c m 0x01 k piece h in
      let e = marked_last (is_last (k + 1) (long_data g.read m.body.store)) g.marked in
      ap (λ (b : Body). b.transfer) g.next ∙ ap (λ (z : Bool). kept_by g.line (cond z idle (running g.read (k + 1)))) e ∙ kept_idle g.line

  association_forgets : (a : Lent) (m : Model) → sound m ≡ true → takes_blocks (step p (frame a) m).next.line ≡ false → (step p (frame a) m).next.body.transfer ≡ idle
  unfolding step act
  association_forgets a m s =
      by_test Forgets (eqb (early (frame a)) 0)
      (λ _. by_test Forgets (sound m) (λ _. settled_forgets (decided p (p.decide m.line a) m).next) (λ _. stays)) (λ _. stays)
    where
      Forgets : Outcome → Type 0
      Forgets o = takes_blocks o.next.line ≡ false → o.next.body.transfer ≡ idle

      settled_forgets : (n : Model) → takes_blocks n.line ≡ false → (settled n).body.transfer ≡ idle
      settled_forgets n e = kept_none n.line n.body.transfer e

      stays : takes_blocks m.line ≡ false → m.body.transfer ≡ idle
      stays e = sym (ap (λ (n : Model). n.body.transfer) (settled_stays m s)) ∙ settled_forgets m e

-- what a read of H leaves
module _ (q : Request) (a : ℕ) (s : Selection) (b : Body) where
  -- by what it comes to
  abbrev left_by : Result → Turn
  left_by r = record { refusal = refusal_of r; bytes = get_answer q.invoke r; body = with_transfer (transfer_after r) b }

  read_leaves : (r : Result) → read_result q a s b ≡ r → (transfer_after r ≡ idle) ⊎ BeginsAnother q (left_by r)
  read_leaves (granted d) e = inl refl
  read_leaves (begun t d) e =
      let g = (began_by q a s b t d e).begins in
      inr (record { read = g.read; piece = block 1 d; granted = refl; bytes = first_bytes q.invoke d g.long; transfer = g.transfer })
  read_leaves (denied c) e = inl refl

  read_forgets : q.client ≡ Ciphering Han → q.service ≡ get a s → ((turned (ask q) b).body.transfer ≡ idle) ⊎ BeginsAnother q (turned (ask q) b)
  read_forgets c e =
      let u : turned (ask q) b ≡ left_by (read_result q a s b) =
      asked_turned q (get a s) b e
      ∙ ap (λ (x : Client). record { refusal = refusal_of (read_result q a s b); bytes = get_answer q.invoke (read_result q a s b); body = after_read x (read_result q a s b) b }) c in
      rw u (read_leaves (read_result q a s b) refl)

power_forgets : (p : Protocol) (m : Model) → sound m ≡ true → (step p (owner power_up) m).next.body.transfer ≡ idle
unfolding step act
power_forgets p m s = rw s

pub forgets_transfers : (p : Protocol) → ForgetsTransfers p
forgets_transfers p =
    record { last_block = last_forgets p; read = read_forgets; association = association_forgets p; power_up = power_forgets p }

-- What leaves a transfer.

broken_left : (t : Transfer) → (runs t ≡ true → ⊥) → broken t ≡ t
broken_left idle h = refl
broken_left (running x k) h = absurd (h refl)
broken_left ended h = refl

module _ (p : Protocol) (m : Model) where
  abbrev Same : Outcome → Type 0
  Same o = o.next.body.transfer ≡ m.body.transfer

  obeyed_leaves : (o : OwnerCall) → own_refusal o m ≡ 0 → (o ≡ power_up → ⊥) → ((runs m.body.transfer ≡ true) × BringsOtherRows m o → ⊥) → Same (done (obeyed o m))
  unfolding ticked captured
  obeyed_leaves (give_registers rs) z n h = broken_left m.body.transfer (λ r. h (r, registers rs (passed (accepted_registers rs) 16 refl z)))
  obeyed_leaves (set_value n v) z _ h = refl
  obeyed_leaves (set_columns cs) z n h =
      broken_left m.body.transfer (λ r. h (r, columns cs (passed (accepted_columns m.body.store.registers cs) 18 refl z)))
  obeyed_leaves (set_period d) z n h = refl
  obeyed_leaves (tick t) z n h =
      by_test (λ (b : Body). Same (done (with_body (with_clock t b) m))) (capture_due m.body.period t)
      (λ d. broken_left m.body.transfer (λ r. h (r, captures t (passed (valid_clock t) 14 refl z) d))) (λ _. refl)
  obeyed_leaves (set_p5 f) z n h = refl
  obeyed_leaves power_up z n h = absurd (n refl)

  owner_leaves : (o : OwnerCall) → (o ≡ power_up → ⊥) → ((runs m.body.transfer ≡ true) × BringsOtherRows m o → ⊥) → Same (step p (owner o) m)
  unfolding step act
  owner_leaves o n h =
      by_test Same (sound m)
      (λ _. by_test Same (eqb (own_refusal o m) 0) (λ e. obeyed_leaves o (eqb-true (own_refusal o m) 0 e) n h) (λ _. refl)) (λ _. refl)

  unsound_leaves : (c : Call) → sound m ≡ false → Same (step p c m)
  unfolding step
  unsound_leaves c s = by_test Same (eqb (early c) 0) (λ _. rw s) (λ _. refl)

module _ (q : Request) (b : Body) where
  -- V knows the device name alone, and no method changes it
  method_of_v : (r : Result) → (after_action (meaning Verification q.name b.store.registers) b r).transfer ≡ b.transfer
  method_of_v r =
      by_test (λ (w : Meaning). (after_action w b r).transfer ≡ b.transfer) (same_name device_object.name q.name) (λ _. of_device r) (λ _. refl)
    where
      of_device : (r : Result) → (after_action (known device_object.object) b r).transfer ≡ b.transfer
      of_device (granted d) = refl
      of_device (begun t d) = refl
      of_device (denied c) = refl

  asked_by_v : q.client ≡ Verification → (v : Service) → (answered q b (meaning q.client q.name b.store.registers) v).body.transfer ≡ b.transfer
  asked_by_v e (get a s) = ap (λ (c : Client). (after_read c (read_result q a s b) b).transfer) e
  asked_by_v e (action k v) =
      let r = method_invoked q k v (meaning q.client q.name b.store.registers) in
      ap (λ (c : Client). (after_action (meaning c q.name b.store.registers) b r).transfer) e ∙ method_of_v r

  verification_leaves : q.client ≡ Verification → (turned (ask q) b).body.transfer ≡ b.transfer
  verification_leaves e = ap (λ (t : Turn). t.body.transfer) (asked_turned q q.service b refl) ∙ asked_by_v e q.service

  -- where no reset of the profile is granted while a transfer runs
  method_leaves : (w : Meaning) (r : Result) → Means w q.name b.store.registers
      → ((runs b.transfer ≡ true) × (same_name profile_named q.name ≡ true) × (refusal_of r ≡ 0) → ⊥) → (after_action w b r).transfer ≡ b.transfer
  method_leaves unknown r t h = refl
  method_leaves (known o) (granted d) t h = go o.content t
    where
      go : (x : Content) → Tells x q.name b.store.registers → (after_method x b).transfer ≡ b.transfer
      go (simple y) n = refl
      go rows n = broken_left b.transfer (λ r. h (r, n, refl))
      go record_number n = refl
      go (register r) n = refl
  method_leaves (known o) (begun x d) t h = refl
  method_leaves (known o) (denied c) t h = refl

  action_leaves : (k : ℕ) (v : Parameter) → q.service ≡ action k v
      → ((runs b.transfer ≡ true) × (same_name profile_named q.name ≡ true) × ((turned (ask q) b).refusal ≡ 0) → ⊥) → (turned (ask q) b).body.transfer ≡ b.transfer
  action_leaves k v e h =
      let w = meaning q.client q.name b.store.registers in
      let u = asked_turned q (action k v) b e in
      ap (λ (t : Turn). t.body.transfer) u
      ∙ method_leaves w (method_invoked q k v w) (meaning_tells q.client q.name b.store.registers) (λ i. h (i.0, i.1, ap (λ (t : Turn). t.refusal) u ∙ i.2))

pub leaves_transfers : (p : Protocol) → LeavesTransfers p
leaves_transfers p =
    record {
      owner = λ o m. owner_leaves p m o;
      verification = verification_leaves;
      action = λ q k v b. action_leaves q b k v;
      unsound = λ c m. unsound_leaves p m c;
    }
