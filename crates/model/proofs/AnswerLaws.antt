-- What the body answers a request, against what it answers where values are hidden: equal but for the data of a granted read
-- of what is chosen, and equally long even then.
use mathlib.Core.Path.{◌≡◌, refl, sym, ◌∙◌, ap}
use mathlib.Core.Bool.{Bool, true, false, cond, not, ◌&&◌}
use mathlib.Core.List.{List, [], ◌∷◌, map}
use Prim.Native.Nat.{ℕ, suc, ◌+◌}
use lib.ListN.{length, length-take, length-drop}
use lib.Dec.{eqb, leb}
use Rattle.wire.proofs.NumberLaws.{length_high}
use Rattle.model.specs.declared.Name.{Name}
use Rattle.model.specs.declared.Client.{Client}
use Rattle.model.specs.declared.Client.TheVariants.{Verification, Ciphering}
use Rattle.model.specs.declared.CipherClient.TheVariants.{Han}
use Rattle.model.specs.declared.Register.{Register}
use Rattle.model.specs.Limits.{longest_sent, data_room, block_length}
use Rattle.model.specs.Names.{same_name, given, bearing}
use Rattle.model.specs.Selecting.{Selection, all, Described, picking, faulty, described}
use Rattle.model.specs.State.{Entry, Store, Long, Transfer, idle, running, ended, runs, broken, Body, with_store, with_number, with_transfer, keeping, with_rows}
use Rattle.model.specs.Objects.{Simple, device, Content, simple, rows, record_number, register, Object, Own, clock, time, date, own_objects, device_object, profile_named, Meaning, known, unknown, among_own, among_registers, register_object, meaning, serves, Parameter, Service, get, action, Request, Inquiry, ask, go_on, Result, granted, begun, denied, unsigned32, name_data, simple_data, rows_data, value_data, scaler_data, attribute_data, Picked, these, wrong, picked_by, selected_rows, takes_selector, begins, fitting, shown, served, attribute_read, method_invoked, after_method, block, is_last, block_answer, long_data, went_out, Turn, refusal_of, get_answer, transfer_after, after_read, action_answer, after_action, answered, refused_turn, next_turn, continued, turned}
use Rattle.model.specs.Demand3.{Chosen, hide, hide_register, hide_entry, hide_store, hide_body, any_chosen, asks_chosen, inquires_chosen}
use Rattle.model.proofs.NameLaws.{given_bears}
use Rattle.model.proofs.BlockLaws.{answer_length}
use Rattle.model.proofs.ObjectLaws.{Tells, Means, meaning_tells}
use Rattle.model.proofs.HidingLaws.{store_twice, registers_twice, given_hidden, bearing_hidden, rows_kept, length_rows, hide_picked, picked_hidden, long_length, long_kept}

-- Two results of a read: equal but for the data of a granted read of what is chosen.
record Near (may : Bool) (r s : Result) : Type 0 where
  refusal : refusal_of r ≡ refusal_of s
  size : (i : ℕ) → length (get_answer i r) ≡ length (get_answer i s)
  bytes : ((may ≡ true) × (refusal_of r ≡ 0) → ⊥) → r ≡ s
  after : transfer_after r ≡ transfer_after s

near_equal : {may : Bool} {r s : Result} → r ≡ s → Near may r s
near_equal e =
    record {
      refusal = ap refusal_of e;
      size = λ i. ap (λ (x : Result). length (get_answer i x)) e;
      bytes = λ _. e;
      after = ap transfer_after e;
    }

near_if : {may : Bool} (b : Bool) {r s r' s' : Result} → (b ≡ true → Near may r s) → (b ≡ false → Near may r' s') → Near may (cond b r r') (cond b s s')
near_if true x y = x refl
near_if false x y = y refl

-- what is equal where nothing chosen is asked is equal where no such read is granted
same_unless : {A : Type 0} (may : Bool) {x y : A} → (may ≡ false → x ≡ y) → ((may ≡ true) × (◌≡◌ {A = ℕ} 0 0) → ⊥) → x ≡ y
same_unless may {x = x} {y = y} same k = go may refl
  where
    go : (b : Bool) → may ≡ b → x ≡ y
    go true e = absurd (k (e, refl))
    go false e = same e

-- data of equal length, which are equal where nothing chosen is asked
near_granted : (may : Bool) (d e : List ℕ) → length d ≡ length e → (may ≡ false → d ≡ e) → Near may (granted d) (granted e)
near_granted may d e l same =
    record {
      refusal = refl;
      size = λ i. ap (λ (n : ℕ). suc (suc (suc (suc n)))) l;
      bytes = λ k. ap granted (same_unless may same k);
      after = refl;
    }

-- blocks of such data

length_block : (k : ℕ) (d e : List ℕ) → length d ≡ length e → length (block k d) ≡ length (block k e)
unfolding block
length_block k d e l = simp (length-take, length-drop, l)

last_same : (k : ℕ) (d e : List ℕ) → length d ≡ length e → is_last k d ≡ is_last k e
unfolding is_last
last_same k d e l = rw l

length_answer : (i k : ℕ) (d e : List ℕ) → length d ≡ length e → length (block_answer i k d) ≡ length (block_answer i k e)
length_answer i k d e l = answer_length i k d ∙ ap block_length (length_block k d e l) ∙ sym (answer_length i k e)

near_begun : (may : Bool) (t : Transfer) (d e : List ℕ) → length d ≡ length e → (may ≡ false → d ≡ e) → Near may (begun t d) (begun t e)
near_begun may t d e l same =
    record { refusal = refl; size = λ i. length_answer i 1 d e l; bytes = λ k. ap (begun t) (same_unless may same k); after = refl }

near_fitting : (may blocks : Bool) (t : Transfer) (d e : List ℕ) → length d ≡ length e → (may ≡ false → d ≡ e) → Near may (fitting blocks t d) (fitting blocks t e)
unfolding fitting
near_fitting may blocks t d e l same =
    rw l
    (near_if (leb (length e) (data_room longest_sent)) (λ _. near_granted may d e l same) λ _.
    near_if (blocks && runs t) (λ _. near_begun may t d e l same) λ _.
    near_equal refl)

-- What a name means, and what it means where values are hidden.
module _ (ch : Chosen) where
  abbrev hide_content : Content → Content
  hide_content (simple x) = simple x
  hide_content rows = rows
  hide_content record_number = record_number
  hide_content (register r) = register (hide_register ch r)

  abbrev hide_object : Object → Object
  hide_object o = record { class = o.class; attributes = o.attributes; methods = o.methods; content = hide_content o.content }

  abbrev hide_meaning : Meaning → Meaning
  hide_meaning unknown = unknown
  hide_meaning (known o) = known (hide_object o)

  -- no own object shows a register's value
  abbrev OwnKept : List Own → Type 0
  OwnKept [] = Unit {0}
  OwnKept (o ∷ os) = (hide_object o.object ≡ o.object) × OwnKept os

  own_mean : (n : Name) (os : List Own) (e f : Meaning) → OwnKept os → f ≡ hide_meaning e → among_own n os f ≡ hide_meaning (among_own n os e)
  own_mean n [] e f k h = h
  own_mean n (o ∷ os) e f k h = go (same_name o.name n) (own_mean n os e f k.1 h)
    where
      go : (b : Bool) → among_own n os f ≡ hide_meaning (among_own n os e)
          → cond b (known o.object) (among_own n os f) ≡ hide_meaning (cond b (known o.object) (among_own n os e))
      go true ih = ap known (sym k.0)
      go false ih = ih

  registers_mean : (n : Name) (rs : List Register) → among_registers n (map (hide_register ch) rs) ≡ hide_meaning (among_registers n rs)
  registers_mean n rs = rw (bearing_hidden ch n rs, given_hidden ch n rs) (go (given n rs))
    where
      go : (b : Bool) → cond b (known (register_object (hide_register ch (bearing n rs)))) unknown ≡ hide_meaning (cond b (known (register_object (bearing n rs))) unknown)
      go true = refl
      go false = refl

  meaning_hidden : (c : Client) (n : Name) (rs : List Register) → meaning c n (map (hide_register ch) rs) ≡ hide_meaning (meaning c n rs)
  meaning_hidden Verification n rs = own_mean n (device_object ∷ []) unknown unknown (refl, tt) refl
  meaning_hidden (Ciphering Han) n rs =
      own_mean n own_objects (among_registers n rs) (among_registers n (map (hide_register ch) rs))
      (refl, (refl, (refl, (refl, (refl, (refl, tt))))))
      (registers_mean n rs)

  -- The rows that a selection means, hidden before or after.

  described_hidden : (cs : List Name) (d : Described) (rs : List Entry) → picked_by d (map (hide_entry ch cs) rs) ≡ hide_picked ch cs (picked_by d rs)
  described_hidden cs (picking p) rs = picked_hidden ch cs p rs
  described_hidden cs (faulty c) rs = refl

  selected_hidden : (cs : List Name) (b : Bool) (s : Selection) (rs : List Entry) → selected_rows b s (map (hide_entry ch cs) rs) ≡ hide_picked ch cs (selected_rows b s rs)
  selected_hidden cs b s rs = described_hidden cs (described b s) rs

  -- A read.

  -- what is shown, by the attribute: 2 is the value, and no other attribute shows one
  near_shown : (blocks : Bool) (u : Transfer) (x y : Content) (n : Name) (a : ℕ) (b c : Body) (rs ts : List Entry) (may : Bool)
      → length (value_data x rs b) ≡ length (value_data y ts c) → (may ≡ false → eqb a 2 ≡ true → value_data x rs b ≡ value_data y ts c)
      → scaler_data x ≡ scaler_data y → Near may (shown blocks u x n a b (these rs)) (shown blocks u y n a c (these ts))
  unfolding attribute_data
  near_shown blocks u x y n a b c rs ts may l e f = near_fitting may blocks u _ _ (sizes (eqb a 1) (eqb a 2)) (λ h. go h (eqb a 1) (eqb a 2) refl)
    where
      sizes : (one two : Bool) → length (cond one (name_data n) (cond two (value_data x rs b) (scaler_data x))) ≡ length (cond one (name_data n) (cond two (value_data y ts c) (scaler_data y)))
      sizes true two = refl
      sizes false true = l
      sizes false false = ap length f

      go : may ≡ false → (one two : Bool) → eqb a 2 ≡ two → cond one (name_data n) (cond two (value_data x rs b) (scaler_data x)) ≡ cond one (name_data n) (cond two (value_data y ts c) (scaler_data y))
      go h true two i = refl
      go h false true i = e h i
      go h false false i = f

  simple_hidden : (y : Simple) (b : Body) → simple_data y b ≡ simple_data y (hide_body ch b)
  simple_hidden clock b = refl
  simple_hidden time b = refl
  simple_hidden date b = refl
  simple_hidden device b = refl

  module _ (blocks : Bool) (u : Transfer) (n : Name) (a : ℕ) (b : Body) where
    -- data in which no value is shown
    near_simple : (may : Bool) (x : Content) (rs ts : List Entry) → value_data x rs b ≡ value_data x ts (hide_body ch b)
        → Near may (shown blocks u x n a b (these rs)) (shown blocks u x n a (hide_body ch b) (these ts))
    near_simple may x rs ts e = near_shown blocks u x x n a b (hide_body ch b) rs ts may (ap length e) (λ _ _. e) refl

    near_rows : (rs : List Entry) → same_name profile_named n ≡ true
        → Near (asks_chosen ch n (get a all) b.store) (shown blocks u rows n a b (these rs)) (shown blocks u rows n a (hide_body ch b) (these (map (hide_entry ch b.store.columns) rs)))
    near_rows rs h =
        near_shown blocks u rows rows n a b (hide_body ch b) rs (map (hide_entry ch b.store.columns) rs) _ (sym (length_rows ch b.store.columns rs)) same refl
      where
        same : asks_chosen ch n (get a all) b.store ≡ false → eqb a 2 ≡ true → rows_data rs ≡ rows_data (map (hide_entry ch b.store.columns) rs)
        same f i = ap rows_data (sym (rows_kept ch b.store.columns rs (rw (i, h) at f)))

    near_register : (r : Register) (rs ts : List Entry) → same_name profile_named n ≡ false → given n b.store.registers ≡ true → r.name ≡ n
        → Near (asks_chosen ch n (get a all) b.store) (shown blocks u (register r) n a b (these rs)) (shown blocks u (register (hide_register ch r)) n a (hide_body ch b) (these ts))
    near_register r rs ts h g e =
        near_shown blocks u (register r) (register (hide_register ch r)) n a b (hide_body ch b) rs ts _
        (ap suc (length_high 4 r.value ∙ sym (length_high 4 (hide (ch r.name) r.value)))) same refl
      where
        same : asks_chosen ch n (get a all) b.store ≡ false → eqb a 2 ≡ true → unsigned32 r.value ≡ unsigned32 (hide (ch r.name) r.value)
        same f i = ap (λ (t : Bool). unsigned32 (hide t r.value)) (sym (rw (i, h, g) at f) ∙ ap ch (sym e))

    content_near : (x : Content) (w : Picked) → Tells x n b.store.registers
        → Near (asks_chosen ch n (get a all) b.store) (shown blocks u x n a b w) (shown blocks u (hide_content x) n a (hide_body ch b) (hide_picked ch b.store.columns w))
    content_near x (wrong c) t = near_equal refl
    content_near (simple y) (these rs) t = near_simple _ (simple y) _ _ (simple_hidden y b)
    content_near rows (these rs) t = near_rows rs t
    content_near record_number (these rs) t = near_simple _ record_number _ _ refl
    content_near (register r) (these rs) t =
        near_register r _ _ t.0 t.1 (ap (λ (x : Register). x.name) t.2 ∙ given_bears n b.store.registers t.1)

  -- what a read takes and begins is no matter of values

  takes_hidden : (x : Content) (a : ℕ) → takes_selector (hide_content x) a ≡ takes_selector x a
  takes_hidden (simple y) a = refl
  takes_hidden rows a = refl
  takes_hidden record_number a = refl
  takes_hidden (register r) a = refl

  begins_hidden : (x : Content) (a : ℕ) (d : Described) → begins (hide_content x) a d ≡ begins x a d
  begins_hidden (simple y) a d = refl
  begins_hidden rows a d = refl
  begins_hidden record_number a d = refl
  begins_hidden (register r) a d = refl

  served_near : (q : Request) (x : Content) (a : ℕ) (s : Selection) (b : Body) → Tells x q.name b.store.registers
      → Near (asks_chosen ch q.name (get a s) b.store) (served q x a s b) (served q (hide_content x) a s (hide_body ch b))
  served_near q x a s b t =
      rw (takes_hidden x a, begins_hidden x a (described (takes_selector x a && q.selective) s), selected_hidden b.store.columns (takes_selector x a && q.selective) s b.store.rows)
      (content_near q.blocks (begins x a (described (takes_selector x a && q.selective) s)) q.name a b x (selected_rows (takes_selector x a && q.selective) s b.store.rows) t)

  read_near : (q : Request) (a : ℕ) (s : Selection) (b : Body) (w : Meaning) → Means w q.name b.store.registers
      → Near (asks_chosen ch q.name (get a s) b.store) (attribute_read q a s b w) (attribute_read q a s (hide_body ch b) (hide_meaning w))
  unfolding attribute_read
  read_near q a s b unknown t = near_equal refl
  read_near q a s b (known o) t =
      near_if (not (eqb q.class o.class)) (λ _. near_equal refl) λ _.
      near_if (not (serves o.attributes a)) (λ _. near_equal refl) λ _.
      served_near q o.content a s b t

  method_hidden : (q : Request) (k : ℕ) (v : Parameter) (w : Meaning) → method_invoked q k v (hide_meaning w) ≡ method_invoked q k v w
  unfolding method_invoked
  method_hidden q k v unknown = refl
  method_hidden q k v (known o) = refl

  pub body_twice : (b : Body) → hide_body ch b ≡ hide_body ch (hide_body ch b)
  body_twice b = ap (λ (s : Store). with_store s b) (sym (store_twice ch b.store))

  pub emptied_twice : (b : Body) → hide_body ch (with_store (with_rows [] b.store) b) ≡ hide_body ch (with_store (with_rows [] (hide_store ch b.store)) b)
  emptied_twice b =
      ap (λ (rs : List Register). with_store (keeping rs b.store.columns []) b)
      (sym (registers_twice ch b.store.registers))

  read_after : (c : Client) (b : Body) (r s : Result) → transfer_after r ≡ transfer_after s → hide_body ch (after_read c r b) ≡ hide_body ch (after_read c s (hide_body ch b))
  read_after Verification b r s e = body_twice b
  read_after (Ciphering Han) b r s e = body_twice (with_transfer (transfer_after r) b) ∙ ap (λ (t : Transfer). hide_body ch (with_transfer t (hide_body ch b))) e

  method_after : (x : Content) (b : Body) → hide_body ch (after_method x b) ≡ hide_body ch (after_method (hide_content x) (hide_body ch b))
  method_after (simple y) b = body_twice b
  method_after rows b = ap (with_transfer (broken b.transfer)) (emptied_twice b)
  method_after record_number b = body_twice (with_number 0 b)
  method_after (register r) b = body_twice b

  action_after : (w : Meaning) (b : Body) (r : Result) → hide_body ch (after_action w b r) ≡ hide_body ch (after_action (hide_meaning w) (hide_body ch b) r)
  action_after unknown b r = body_twice b
  action_after (known o) b (granted d) = method_after o.content b
  action_after (known o) b (begun t d) = body_twice b
  action_after (known o) b (denied c) = body_twice b

  -- What the body answers.
  pub record CloseTurn (may : Bool) (t u : Turn) : Type 0 where
    pub refusal : t.refusal ≡ u.refusal
    pub size : length t.bytes ≡ length u.bytes
    pub bytes : ((may ≡ true) × (t.refusal ≡ 0) → ⊥) → t.bytes ≡ u.bytes
    pub body : hide_body ch t.body ≡ hide_body ch u.body

  answered_close : (q : Request) (b : Body) (w : Meaning) (v : Service) → Means w q.name b.store.registers
      → CloseTurn (asks_chosen ch q.name v b.store) (answered q b w v) (answered q (hide_body ch b) (hide_meaning w) v)
  answered_close q b w (get a s) t =
      let h = read_near q a s b w t in
      record {
        refusal = h.refusal;
        size = h.size q.invoke;
        bytes = λ k. ap (get_answer q.invoke) (h.bytes k);
        body = read_after q.client b _ _ h.after;
      }
  answered_close q b w (action k v) t =
      let h = sym (method_hidden q k v w) in
      record {
        refusal = ap refusal_of h;
        size = ap (λ (r : Result). length (action_answer q.invoke r)) h;
        bytes = λ _. ap (action_answer q.invoke) h;
        body = action_after w b (method_invoked q k v w) ∙ ap (λ (r : Result). hide_body ch (after_action (hide_meaning w) (hide_body ch b) r)) h;
      }

  -- A numbered request.

  refused_close : {may : Bool} (i n c : ℕ) (b : Body) → CloseTurn may (refused_turn i n c b) (refused_turn i n c (hide_body ch b))
  refused_close i n c b = record { refusal = refl; size = refl; bytes = λ _. refl; body = body_twice (with_transfer idle b) }

  next_close : (i : ℕ) (x : Long) (k : ℕ) (b : Body) → CloseTurn (any_chosen ch b.store.columns) (next_turn i x k b) (next_turn i x k (hide_body ch b))
  next_close i x k b =
      let l = sym (long_length ch x b.store) in
      record {
        refusal = refl;
        size = length_answer i (k + 1) _ _ l;
        bytes = λ g. ap (block_answer i (k + 1)) (same_unless (any_chosen ch b.store.columns) (λ e. sym (long_kept ch x b.store e)) g);
        body =
            body_twice (with_transfer (went_out x (k + 1) (long_data x b.store)) b)
            ∙ ap (λ (c : Bool). hide_body ch (with_transfer (cond c idle (running x (k + 1))) (hide_body ch b))) (last_same (k + 1) _ _ l);
      }

  turn_if : {may : Bool} (c : Bool) {t u t' u' : Turn} → CloseTurn may t u → CloseTurn may t' u' → CloseTurn may (cond c t t') (cond c u u')
  turn_if true x y = x
  turn_if false x y = y

  continued_close : (i n : ℕ) (b : Body) (t : Transfer) → CloseTurn (runs t && any_chosen ch b.store.columns) (continued i n b t) (continued i n (hide_body ch b) t)
  continued_close i n b ended = refused_close i n 15 b
  continued_close i n b idle = refused_close i n 16 b
  continued_close i n b (running x k) = turn_if (eqb n k) (next_close i x k b) (refused_close i n 19 b)

  pub turned_close : (q : Inquiry) (b : Body) → CloseTurn (inquires_chosen ch q b) (turned q b) (turned q (hide_body ch b))
  unfolding turned
  turned_close (go_on i n) b = continued_close i n b b.transfer
  turned_close (ask q) b =
      rw (meaning_hidden q.client q.name b.store.registers)
      (answered_close q b (meaning q.client q.name b.store.registers) q.service (meaning_tells q.client q.name b.store.registers))
