-- A new meter is sound, and a sound meter stays sound: the statements on soundness of specs/Archive, proved.
use mathlib.Core.Path.{◌≡◌, refl, ap, ◌∙◌}
use mathlib.Core.Bool.{Bool, true, cond, ◌&&◌}
use mathlib.Core.List.{List, [], ◌∷◌, map}
use Prim.Native.Nat.{ℕ, zero, suc, ◌+◌, ◌*◌, ◌≤◌}
use native.Mathlib.Omega.{arith}
use lib.ListN.{length, take, length-map, length-set, length-take}
use lib.Seq.{map-set_same}
use lib.Dec.{eqb, leb}
use borrow.Author.Tests.{eqb-true, eq-eqb, le-leb, leb-false}
use Rattle.model.specs.declared.Name.{Name}
use Rattle.model.specs.declared.Clock.{Clock}
use Rattle.model.specs.declared.Client.{Client}
use Rattle.model.specs.declared.Client.TheVariants.{Verification, Ciphering}
use Rattle.model.specs.declared.CipherClient.TheVariants.{Han}
use Rattle.model.specs.declared.Register.{Register}
use Rattle.model.specs.Limits.{longest_sent, block_room, max_rows, max_registers, max_columns}
use Rattle.model.specs.Names.{every, bearing, blank_register, place, assigned, name_of}
use Rattle.model.specs.Clocks.{valid_clock, real_date, real_time, fixed_bytes, days_in, february_days}
use Rattle.model.specs.Periods.{periods, permitted_period, capture_due}
use Rattle.model.specs.State.{Line, Entry, Store, Long, profile, Transfer, idle, running, ended, broken, Body, Model, with_line, with_body, with_transfer, with_other_rows, keeping, with_rows, with_registers, with_clock, with_number, with_period, with_p5, new_meter}
use Rattle.model.specs.declared.SoundnessTest.{SoundnessTest}
use Rattle.model.specs.declared.SoundnessTest.TheVariants.{RegisterList, ColumnList, PeriodPermitted, ClockValid, RowClocksValid, RowCount, RowCells, AssociationKind, AssociationOnLink, AgreedServices, TransferPossible}
use Rattle.model.specs.Soundness.{passes, accepted_registers, accepted_columns, kinds_known, links_stand, services_offered, line_sound, takes_blocks, could_ask, allowed, rows_allow, sound}
use Rattle.model.specs.Selecting.{whole, numbered, dated}
use Rattle.model.specs.Objects.{Content, simple, rows, record_number, register, Meaning, known, unknown, meaning, Service, get, action, Inquiry, ask, go_on, Result, granted, begun, denied, attribute_read, method_invoked, after_method, is_last, long_data, went_out, Turn, transfer_after, after_read, after_action, answered, continued, turned}
use Rattle.model.specs.Calls.{Call, frame, owner, OwnerCall, own_refusal, obeyed, give_registers, set_value, set_columns, set_period, tick, set_p5, power_up, Outcome, Decision, answer, serve, Protocol, decided, settled, next_number, row_now, captured, ticked, with_assigned, powered_line, act, early, step}
use Rattle.model.specs.Archive.{NewMeterSound, line_after, KeepsLines, StaysSound}
use Rattle.model.proofs.ListLaws.{both, both_true, by_test, every_anywhere, passed}
use Rattle.model.proofs.SoundnessLaws.{sound_passes, sound_from}
use Rattle.model.proofs.BlockLaws.{less_room}
use Rattle.model.proofs.TransferLaws.{going, goes, Begun, read_begins}

pub new_meter_sound : NewMeterSound
unfolding sound new_meter accepted_registers accepted_columns valid_clock real_date real_time fixed_bytes days_in february_days periods max_rows max_registers max_columns allowed rows_allow
new_meter_sound d t v h = refl

-- The tests on the store, on the body and on the line.

record GoodStore (s : Store) : Type 0 where
  registers : accepted_registers s.registers ≡ true
  columns : accepted_columns s.registers s.columns ≡ true
  clocks : every (λ i r. valid_clock r.clock) 0 s.rows ≡ true
  count : leb (length s.rows) max_rows ≡ true
  cells : every (λ i r. eqb (length r.cells) (length s.columns)) 0 s.rows ≡ true

record GoodBody (b : Body) : Type 0 where
  store : GoodStore b.store
  period : permitted_period b.period ≡ true
  clock : valid_clock b.clock ≡ true
  transfer : rows_allow b.store b.transfer ≡ true

good_body : (m : Model) → sound m ≡ true → GoodBody m.body
good_body m s =
    let h = sound_passes m s in
    record {
      store = record { registers = h RegisterList; columns = h ColumnList; clocks = h RowClocksValid; count = h RowCount; cells = h RowCells };
      period = h PeriodPermitted;
      clock = h ClockValid;
      transfer = (both (allowed m.line m.body.transfer) _ (h TransferPossible)).1;
    }

good_allowed : (m : Model) → sound m ≡ true → allowed m.line m.body.transfer ≡ true
good_allowed m s = (both (allowed m.line m.body.transfer) _ (sound_passes m s TransferPossible)).0

good_line : (m : Model) → sound m ≡ true → line_sound m.line ≡ true
good_line m s = let h = sound_passes m s in both_true (both_true (h AssociationKind) (h AssociationOnLink)) (h AgreedServices)

sound_of : (m : Model) → GoodBody m.body → line_sound m.line ≡ true → allowed m.line m.body.transfer ≡ true → sound m ≡ true
sound_of m g e a = sound_from m go
  where
    inner : kinds_known m.line && links_stand m.line ≡ true
    inner = (both (kinds_known m.line && links_stand m.line) (services_offered m.line) e).0

    go : (t : SoundnessTest) → passes t m ≡ true
    go RegisterList = g.store.registers
    go ColumnList = g.store.columns
    go PeriodPermitted = g.period
    go ClockValid = g.clock
    go RowClocksValid = g.store.clocks
    go RowCount = g.store.count
    go RowCells = g.store.cells
    go AssociationKind = (both (kinds_known m.line) (links_stand m.line) inner).0
    go AssociationOnLink = (both (kinds_known m.line) (links_stand m.line) inner).1
    go AgreedServices = (both (kinds_known m.line && links_stand m.line) (services_offered m.line) e).1
    go TransferPossible = both_true a g.transfer

-- Each change of the body keeps it good.

no_columns_lem : (rs : List Register) → accepted_columns rs [] ≡ true
unfolding accepted_columns max_columns
no_columns_lem rs = refl

no_rows : leb 0 max_rows ≡ true
unfolding max_rows
no_rows = refl

-- no transfer is always possible
idle_goes : (s : Store) → rows_allow s idle ≡ true
unfolding rows_allow
idle_goes s = refl

idle_allowed : (l : Line) → allowed l idle ≡ true
unfolding allowed
idle_allowed l = refl

good_transfer : (t : Transfer) (b : Body) → rows_allow b.store t ≡ true → GoodBody b → GoodBody (with_transfer t b)
good_transfer t b e g = record { store = g.store; period = g.period; clock = g.clock; transfer = e }

-- other rows end a transfer

broken_goes : (s : Store) (t : Transfer) → rows_allow s (broken t) ≡ true
unfolding rows_allow
broken_goes s idle = refl
broken_goes s (running x k) = refl
broken_goes s ended = refl

broken_allowed : (l : Line) (t : Transfer) → allowed l t ≡ true → allowed l (broken t) ≡ true
unfolding allowed
broken_allowed l idle e = refl
broken_allowed l (running x k) e = (both (takes_blocks l) (could_ask x l) e).0
broken_allowed l ended e = e

good_other : (s : Store) (b : Body) → GoodStore s → GoodBody b → GoodBody (with_other_rows s b)
good_other s b h g = record { store = h; period = g.period; clock = g.clock; transfer = broken_goes s b.transfer }

-- no rows
good_none : (rs : List Register) (cs : List Name) → accepted_registers rs ≡ true → accepted_columns rs cs ≡ true → GoodStore (keeping rs cs [])
good_none rs cs a c = record { registers = a; columns = c; clocks = refl; count = no_rows; cells = refl }

assigned_names : (n : Name) (v : ℕ) (rs : List Register) → map name_of (assigned n v rs) ≡ map name_of rs
assigned_names n v rs = map-set_same name_of rs (place n rs) _ blank_register refl

assigned_accepted : (n : Name) (v : ℕ) (rs : List Register) → accepted_registers (assigned n v rs) ≡ accepted_registers rs
unfolding accepted_registers
assigned_accepted n v rs = simp (assigned_names n v rs, length-set)

assigned_columns : (n : Name) (v : ℕ) (rs : List Register) (cs : List Name) → accepted_columns (assigned n v rs) cs ≡ accepted_columns rs cs
unfolding accepted_columns
assigned_columns n v rs cs = simp (assigned_names n v rs)

good_assigned : (n : Name) (v : ℕ) (s : Store) → GoodStore s → GoodStore (with_registers (assigned n v s.registers) s)
good_assigned n v s g =
    record {
      registers = assigned_accepted n v s.registers ∙ g.registers;
      columns = assigned_columns n v s.registers s.columns ∙ g.columns;
      clocks = g.clocks;
      count = g.count;
      cells = g.cells;
    }

-- a value has no part in what a transfer reads
registers_go : (rs : List Register) (s : Store) (t : Transfer) → rows_allow (with_registers rs s) t ≡ rows_allow s t
unfolding rows_allow
registers_go rs s idle = refl
registers_go rs s (running (profile p) k) = refl
registers_go rs s ended = refl

good_set : (n : Name) (v : ℕ) (b : Body) → GoodBody b → GoodBody (with_assigned n v b)
good_set n v b g =
    record {
      store = good_assigned n v b.store g.store;
      period = g.period;
      clock = g.clock;
      transfer = registers_go _ b.store b.transfer ∙ g.transfer;
    }

good_period : (d : ℕ) (b : Body) → permitted_period d ≡ true → GoodBody b → GoodBody (with_period d b)
good_period d b a g = record { store = g.store; period = a; clock = g.clock; transfer = g.transfer }

good_clock : (t : Clock) (b : Body) → valid_clock t ≡ true → GoodBody b → GoodBody (with_clock t b)
good_clock t b a g = record { store = g.store; period = g.period; clock = a; transfer = g.transfer }

good_number : (n : ℕ) (b : Body) → GoodBody b → GoodBody (with_number n b)
good_number n b g = record { store = g.store; period = g.period; clock = g.clock; transfer = g.transfer }

good_emptied : (b : Body) → GoodBody b → GoodBody (with_other_rows (with_rows [] b.store) b)
good_emptied b g = good_other _ b (good_none b.store.registers b.store.columns g.store.registers g.store.columns) g

every_take : {A : Type 0} (f : A → Bool) (i k : ℕ) (xs : List A) → every (λ j x. f x) i xs ≡ true → every (λ j x. f x) i (take k xs) ≡ true
every_take f i zero xs e = refl
every_take f i (suc k) [] e = refl
every_take f i (suc k) (x ∷ xs) e =
    let h = both (f x) (every (λ j y. f y) (suc i) xs) e in both_true h.0 (every_take f (suc i) k xs h.1)

every_pushed : {A : Type 0} (f : A → Bool) (k : ℕ) (x : A) (xs : List A) → f x ≡ true → every (λ j y. f y) 0 xs ≡ true → every (λ j y. f y) 0 (take k (x ∷ xs)) ≡ true
every_pushed f k x xs h e = every_take f 0 k (x ∷ xs) (both_true h (every_anywhere f 1 0 xs ∙ e))

few : {A : Type 0} (k : ℕ) (xs : List A) → length (take k xs) ≤ k
few k xs = simp length-take (omega arith)

good_pushed : (r : Entry) (s : Store) → valid_clock r.clock ≡ true → length r.cells ≡ length s.columns → GoodStore s
    → GoodStore (with_rows (take max_rows (r ∷ s.rows)) s)
good_pushed r s a e g =
    record {
      registers = g.registers;
      columns = g.columns;
      clocks = every_pushed (λ (r : Entry). valid_clock r.clock) max_rows r s.rows a g.clocks;
      count = le-leb _ _ (few max_rows (r ∷ s.rows));
      cells = every_pushed (λ (r : Entry). eqb (length r.cells) (length s.columns)) max_rows r s.rows (eq-eqb _ _ e) g.cells;
    }

good_captured : (t : Clock) (b : Body) → valid_clock t ≡ true → GoodBody b → GoodBody (captured t b)
unfolding captured
good_captured t b a g =
    good_number (next_number b.number) _
    (good_other _ b (good_pushed (row_now t b) b.store a (length-map b.store.columns (λ c. (bearing c b.store.registers).value)) g.store) g)

good_ticked : (t : Clock) (b : Body) → valid_clock t ≡ true → GoodBody b → GoodBody (ticked t b)
unfolding ticked
good_ticked t b a g = good_clock t _ a (by_test GoodBody (capture_due b.period t) (λ _. good_captured t b a g) (λ _. g))

ticked_allowed : (l : Line) (t : Clock) (b : Body) → allowed l b.transfer ≡ true → allowed l (ticked t b).transfer ≡ true
unfolding ticked captured
ticked_allowed l t b e = by_test (λ (c : Body). allowed l c.transfer ≡ true) (capture_due b.period t) (λ _. broken_allowed l b.transfer e) (λ _. e)

p5_allowed : (f : Bool) (l : Line) (t : Transfer) → allowed (with_p5 f l) t ≡ allowed l t
unfolding allowed
p5_allowed f l idle = refl
p5_allowed f l (running (profile whole) k) = refl
p5_allowed f l (running (profile (numbered from to)) k) = refl
p5_allowed f l (running (profile (dated from to)) k) = refl
p5_allowed f l ended = refl

good_method : (x : Content) (b : Body) → GoodBody b → GoodBody (after_method x b)
good_method (simple y) b g = g
good_method rows b g = good_emptied b g
good_method record_number b g = good_number 0 b g
good_method (register r) b g = g

good_action : (w : Meaning) (b : Body) (r : Result) → GoodBody b → GoodBody (after_action w b r)
good_action unknown b r g = g
good_action (known o) b (granted d) g = good_method o.content b g
good_action (known o) b (begun t d) g = g
good_action (known o) b (denied c) g = g

-- A read: a transfer that begins can go on.

begun_goes : (selective blocks : Bool) (s : Store) (r : Result) → Begun selective blocks s r → rows_allow s (transfer_after r) ≡ true
begun_goes selective blocks s (granted d) h = idle_goes s
begun_goes selective blocks s (begun t d) h =
    let n : length (long_data h.read s) ≡ length d = ap length h.same in
    ap (rows_allow s) h.transfer
    ∙ goes s h.read 1 (record { granted = h.granted; long = omega (arith, n, h.long); some = omega arith; more = omega (arith, n, h.long, less_room longest_sent) })
begun_goes selective blocks s (denied c) h = idle_goes s

good_read : (c : Client) (r : Result) (b : Body) → rows_allow b.store (transfer_after r) ≡ true → GoodBody b → GoodBody (after_read c r b)
good_read Verification r b e g = g
good_read (Ciphering Han) r b e g = good_transfer (transfer_after r) b e g

-- A numbered request.

next_goes : (s : Store) (x : Long) (k : ℕ) → rows_allow s (running x k) ≡ true → rows_allow s (went_out x (k + 1) (long_data x s)) ≡ true
unfolding is_last
next_goes s x k e =
    let h = going s x k e in
    by_test (λ (t : Transfer). rows_allow s t ≡ true) (leb (length (long_data x s)) (block_room longest_sent * (k + 1))) (λ _. idle_goes s) λ f.
    goes s x (k + 1) (record { granted = h.granted; long = h.long; some = omega arith; more = leb-false (length (long_data x s)) (block_room longest_sent * (k + 1)) f })

good_continued : (i n : ℕ) (b : Body) (t : Transfer) → rows_allow b.store t ≡ true → GoodBody b → GoodBody (continued i n b t).body
good_continued i n b idle e g = good_transfer idle b (idle_goes b.store) g
good_continued i n b (running x k) e g =
    by_test (λ (t : Turn). GoodBody t.body) (eqb n k) (λ _. good_transfer _ b (next_goes b.store x k e) g) (λ _. good_transfer idle b (idle_goes b.store) g)
good_continued i n b ended e g = good_transfer idle b (idle_goes b.store) g

good_turned : (q : Inquiry) (b : Body) → GoodBody b → GoodBody (turned q b).body
unfolding turned
good_turned (ask q) b g = go (meaning q.client q.name b.store.registers) q.service
  where
    go : (w : Meaning) (v : Service) → GoodBody (answered q b w v).body
    go w (get a s) = good_read q.client (attribute_read q a s b w) b (begun_goes q.selective q.blocks b.store (attribute_read q a s b w) (read_begins q a s b w)) g
    go w (action k v) = good_action w b (method_invoked q k v w) g
good_turned (go_on i n) b g = good_continued i n b b.transfer g.transfer g

-- What the line after a frame leaves of a transfer is possible.
settled_sound : (m : Model) → GoodBody m.body → line_sound m.line ≡ true → sound (settled m) ≡ true
settled_sound m g e =
    sound_of (settled m)
    (good_transfer _ m.body (by_test (λ (t : Transfer). rows_allow m.body.store t ≡ true) (allowed m.line m.body.transfer) (λ _. g.transfer) (λ _. idle_goes m.body.store)) g)
    e (by_test (λ (t : Transfer). allowed m.line t ≡ true) (allowed m.line m.body.transfer) (λ a. a) (λ _. idle_allowed m.line))

-- A frame that leaves the line of a sound meter as it was leaves its transfer.
pub settled_stays : (m : Model) → sound m ≡ true → settled m ≡ m
settled_stays m s = ap (λ (c : Bool). with_body (with_transfer (cond c m.body.transfer idle) m.body) m) (good_allowed m s)

module _ (m : Model) (s : sound m ≡ true) where
  good : GoodBody m.body
  good = good_body m s

  kept : allowed m.line m.body.transfer ≡ true
  kept = good_allowed m s

  body_sound_lem : (b : Body) → GoodBody b → allowed m.line b.transfer ≡ true → sound (with_body b m) ≡ true
  body_sound_lem b g a = sound_of (with_body b m) g (good_line m s) a

  -- other rows
  other_sound : (x : Store) → GoodStore x → sound (with_body (with_other_rows x m.body) m) ≡ true
  other_sound x h = body_sound_lem _ (good_other x m.body h good) (broken_allowed m.line m.body.transfer kept)

  pub owner_sound : (o : OwnerCall) → own_refusal o m ≡ 0 → sound (obeyed o m) ≡ true
  owner_sound (give_registers rs) z = other_sound _ (good_none rs [] (passed (accepted_registers rs) 16 refl z) (no_columns_lem rs))
  owner_sound (set_value n v) z = body_sound_lem _ (good_set n v m.body good) kept
  owner_sound (set_columns cs) z = other_sound _ (good_none m.body.store.registers cs good.store.registers (passed (accepted_columns m.body.store.registers cs) 18 refl z))
  owner_sound (set_period d) z = body_sound_lem _ (good_period d m.body (passed (permitted_period d) 15 refl z) good) kept
  owner_sound (tick t) z = body_sound_lem _ (good_ticked t m.body (passed (valid_clock t) 14 refl z) good) (ticked_allowed m.line t m.body kept)
  owner_sound (set_p5 f) z = sound_of (with_line (with_p5 f m.line) m) good (good_line m s) (p5_allowed f m.line m.body.transfer ∙ kept)
  owner_sound power_up z = sound_of _ (good_transfer idle _ (idle_goes _) (good_number 0 _ (good_emptied m.body good))) refl (idle_allowed (powered_line m.line))

  module _ (p : Protocol) (keeps : KeepsLines p) where
    act_sound : (c : Call) → sound (act p c m).next ≡ true
    unfolding act
    act_sound (frame a) = go (p.decide m.line a) (keeps m.line a (good_line m s))
      where
        go : (d : Decision) → line_sound (line_after d) ≡ true → sound (settled (decided p d m).next) ≡ true
        go (answer x) e = settled_sound _ good e
        go (serve q w l) e = settled_sound _ (good_turned q m.body good) e
    act_sound (owner o) = by_test (λ (q : Outcome). sound q.next ≡ true) (eqb (own_refusal o m) 0) (λ z. owner_sound o (eqb-true (own_refusal o m) 0 z)) (λ _. s)

pub stays_sound : (p : Protocol) → KeepsLines p → StaysSound p
unfolding step
stays_sound p keeps c m s =
    by_test (λ (o : Outcome). sound o.next ≡ true) (eqb (early c) 0)
    (λ _. by_test (λ (o : Outcome). sound o.next ≡ true) (sound m) (λ _. act_sound m s p keeps c) (λ _. s))
    (λ _. s)
