-- The statements of specs/Honesty, proved.
use mathlib.Core.Path.{◌≡◌, refl, sym, ◌∙◌, ap, ap₂}
use mathlib.Core.Bool.{Bool, true, false, cond, ◌&&◌, false≢true, and-false}
use mathlib.Core.Logic.{◌⊎◌, inl, inr}
use mathlib.Core.List.{List, [], ◌∷◌, map, nil≢cons, cons≢nil, head-eq_of_cons-eq, tail-eq_of_cons-eq}
use Prim.Native.Nat.{ℕ, suc, ◌+◌}
use native.Mathlib.Nat.{add-zero, zero-add, add-suc, suc-add}
use lib.ListN.{get_or}
use lib.Dec.{eqb}
use borrow.Author.Tests.{eqb-true}
use Rattle.model.specs.declared.Name.{Name}
use Rattle.model.specs.declared.Register.{Register}
use Rattle.model.specs.Names.{same_name, given, with_value, blank_register}
use Rattle.model.specs.State.{Line, Entry, Store, runs, Model, with_body, with_store, with_cells}
use Rattle.model.specs.Objects.{profile_named, Service, get, action, Request, ask, go_on}
use Rattle.model.specs.Calls.{Lent, Call, frame, owner, OwnerCall, give_registers, set_value, set_columns, set_period, tick, set_p5, power_up, Wrap, Decision, answer, serve, Protocol, KeepsLengths, step, trace}
use Rattle.model.specs.Demand3.{Chosen, hide, hide_register, hide_cells, hide_entry, hidden, hidden_owner, hidden_call, Alike, any_chosen, asks_chosen, decides_read}
use Rattle.model.specs.Honesty.{replace_registers, replace_cells, replace_rows, ReplacedAlike, value_at, cell_at, blank_entry, AlikeReplaced, replaced_owner, ReplacedCallAlike, nothing, NothingChosen, UnchosenProfile, UnchosenBlocks, ChosenRead, ChosenBlock, ReadsAreChosen}
use Rattle.model.proofs.ListLaws.{both}
use Rattle.model.proofs.HidingLaws.{rows_kept}
use Rattle.model.proofs.Noninterference.{same_call}

-- Replacing.

hide_replaced : (b : Bool) (x v : ℕ) → hide b v ≡ hide b (cond b x v)
hide_replaced true x v = refl
hide_replaced false x v = refl

module _ (ch : Chosen) where
  registers_replaced : (v : ℕ → ℕ) (i : ℕ) (rs : List Register) → map (hide_register ch) rs ≡ map (hide_register ch) (replace_registers ch v i rs)
  registers_replaced v i [] = refl
  registers_replaced v i (r ∷ rs) =
      ap₂ ◌∷◌ (ap (λ (x : ℕ). with_value x r) (hide_replaced (ch r.name) (v i) r.value)) (registers_replaced v (suc i) rs)

  cells_replaced : (v : ℕ → ℕ) (j : ℕ) (cs : List Name) (xs : List ℕ) → hide_cells ch cs xs ≡ hide_cells ch cs (replace_cells ch v j cs xs)
  cells_replaced v j cs [] = refl
  cells_replaced v j [] (x ∷ xs) = refl
  cells_replaced v j (c ∷ cs) (x ∷ xs) = ap₂ ◌∷◌ (hide_replaced (ch c) (v j) x) (cells_replaced v (suc j) cs xs)

  rows_replaced : (w : ℕ → ℕ → ℕ) (i : ℕ) (cs : List Name) (rs : List Entry) → map (hide_entry ch cs) rs ≡ map (hide_entry ch cs) (replace_rows ch w i cs rs)
  rows_replaced w i cs [] = refl
  rows_replaced w i cs (r ∷ rs) =
      ap₂ ◌∷◌ (ap (λ (xs : List ℕ). with_cells xs r) (cells_replaced (w i) 0 cs r.cells))
      (rows_replaced w (suc i) cs rs)

pub replaced_alike : ReplacedAlike
replaced_alike ch v w m =
    ap₂ (λ (xs : List Register) (rs : List Entry). with_body (with_store (record { registers = xs; columns = m.body.store.columns; rows = rs }) m.body) m)
    (registers_replaced ch v 0 m.body.store.registers)
    (rows_replaced ch w 0 m.body.store.columns m.body.store.rows)

owner_replaced : (ch : Chosen) (v : ℕ → ℕ) (o : OwnerCall) → hidden_owner ch o ≡ hidden_owner ch (replaced_owner ch v o)
owner_replaced ch v (give_registers rs) = ap give_registers (registers_replaced ch v 0 rs)
owner_replaced ch v (set_value n x) = ap (set_value n) (hide_replaced (ch n) (v 0) x)
owner_replaced ch v (set_columns cs) = refl
owner_replaced ch v (set_period d) = refl
owner_replaced ch v (tick t) = refl
owner_replaced ch v (set_p5 f) = refl
owner_replaced ch v power_up = refl

pub replaced_call_alike : ReplacedCallAlike
replaced_call_alike ch v (frame a) = refl
replaced_call_alike ch v (owner o) = ap owner (owner_replaced ch v o)

-- Nothing else is alike.

-- values that are hidden alike: the second is the first, or replaces it
hidden_same : (b : Bool) (x y : ℕ) → hide b x ≡ hide b y → y ≡ cond b y x
hidden_same true x y e = refl
hidden_same false x y e = sym e

module _ (ch : Chosen) where
  register_back : (r s : Register) → hide_register ch r ≡ hide_register ch s → s ≡ with_value (cond (ch r.name) s.value r.value) r
  register_back r s e =
      let n : r.name ≡ s.name = ap (λ (x : Register). x.name) e in
      let h : hide (ch r.name) r.value ≡ hide (ch r.name) s.value = ap (λ (x : Register). x.value) e ∙ ap (λ (m : Name). hide (ch m) s.value) (sym n) in
      λ i. record {
        name = sym n i;
        readable = ap (λ (x : Register). x.readable) (sym e) i;
        scaler = ap (λ (x : Register). x.scaler) (sym e) i;
        unit = ap (λ (x : Register). x.unit) (sym e) i;
        value = hidden_same (ch r.name) r.value s.value h i;
      }

  registers_back : (v : ℕ → ℕ) (i : ℕ) (rs ss : List Register) → map (hide_register ch) rs ≡ map (hide_register ch) ss
      → ((k : ℕ) → v (i + k) ≡ (get_or ss k blank_register).value) → ss ≡ replace_registers ch v i rs
  registers_back v i [] [] e h = refl
  registers_back v i [] (s ∷ ss) e h = absurd (nil≢cons e)
  registers_back v i (r ∷ rs) [] e h = absurd (cons≢nil e)
  registers_back v i (r ∷ rs) (s ∷ ss) e h =
      ap₂ ◌∷◌
      (register_back r s (head-eq_of_cons-eq e) ∙ ap (λ (x : ℕ). with_value (cond (ch r.name) x r.value) r) (sym (h 0) ∙ ap v (add-zero i)))
      (registers_back v (suc i) rs ss (tail-eq_of_cons-eq e) (λ k. ap v (suc-add i k ∙ sym (add-suc i k)) ∙ h (suc k)))

  cells_back : (v : ℕ → ℕ) (j : ℕ) (cs : List Name) (xs ys : List ℕ) → hide_cells ch cs xs ≡ hide_cells ch cs ys
      → ((k : ℕ) → v (j + k) ≡ get_or ys k 0) → ys ≡ replace_cells ch v j cs xs
  cells_back v j cs [] [] e h = refl
  cells_back v j [] [] (y ∷ ys) e h = absurd (nil≢cons e)
  cells_back v j (c ∷ cs) [] (y ∷ ys) e h = absurd (nil≢cons e)
  cells_back v j [] (x ∷ xs) [] e h = absurd (cons≢nil e)
  cells_back v j (c ∷ cs) (x ∷ xs) [] e h = absurd (cons≢nil e)
  cells_back v j [] (x ∷ xs) (y ∷ ys) e h = sym e
  cells_back v j (c ∷ cs) (x ∷ xs) (y ∷ ys) e h =
      ap₂ ◌∷◌
      (hidden_same (ch c) x y (head-eq_of_cons-eq e) ∙ ap (λ (z : ℕ). cond (ch c) z x) (sym (h 0) ∙ ap v (add-zero j)))
      (cells_back v (suc j) cs xs ys (tail-eq_of_cons-eq e) (λ k. ap v (suc-add j k ∙ sym (add-suc j k)) ∙ h (suc k)))

  row_back : (v : ℕ → ℕ) (cs : List Name) (r s : Entry) → hide_entry ch cs r ≡ hide_entry ch cs s → ((k : ℕ) → v k ≡ get_or s.cells k 0)
      → s ≡ with_cells (replace_cells ch v 0 cs r.cells) r
  row_back v cs r s e h =
      λ i. record {
        number = ap (λ (x : Entry). x.number) (sym e) i;
        clock = ap (λ (x : Entry). x.clock) (sym e) i;
        cells = cells_back v 0 cs r.cells s.cells (ap (λ (x : Entry). x.cells) e) (λ k. ap v (zero-add k) ∙ h k) i;
      }

  rows_back : (w : ℕ → ℕ → ℕ) (i : ℕ) (cs : List Name) (rs ss : List Entry) → map (hide_entry ch cs) rs ≡ map (hide_entry ch cs) ss
      → ((k l : ℕ) → w (i + k) l ≡ get_or (get_or ss k blank_entry).cells l 0) → ss ≡ replace_rows ch w i cs rs
  rows_back w i cs [] [] e h = refl
  rows_back w i cs [] (s ∷ ss) e h = absurd (nil≢cons e)
  rows_back w i cs (r ∷ rs) [] e h = absurd (cons≢nil e)
  rows_back w i cs (r ∷ rs) (s ∷ ss) e h =
      ap₂ ◌∷◌ (row_back (w i) cs r s (head-eq_of_cons-eq e) (λ k. ap (λ (j : ℕ). w j k) (sym (add-zero i)) ∙ h 0 k))
      (rows_back w (suc i) cs rs ss (tail-eq_of_cons-eq e) (λ k l. ap (λ (j : ℕ). w j l) (suc-add i k ∙ sym (add-suc i k)) ∙ h (suc k) l))

pub alike_replaced : AlikeReplaced
alike_replaced ch m₁ m₂ e =
    let c : m₁.body.store.columns ≡ m₂.body.store.columns = ap (λ (m : Model). m.body.store.columns) e in
    let rs = registers_back ch (value_at m₂) 0 m₁.body.store.registers m₂.body.store.registers (ap (λ (m : Model). m.body.store.registers) e) (λ k. ap (value_at m₂) (zero-add k)) in
    let es =
    rows_back ch (cell_at m₂) 0 m₁.body.store.columns m₁.body.store.rows m₂.body.store.rows
    (ap (λ (m : Model). m.body.store.rows) e ∙ ap (λ (cs : List Name). map (hide_entry ch cs) m₂.body.store.rows) (sym c)) (λ k l. ap (λ (j : ℕ). cell_at m₂ j l) (zero-add k))
    in
    λ i. record {
      line = ap (λ (m : Model). m.line) (sym e) i;
      body = record {
        device = ap (λ (m : Model). m.body.device) (sym e) i;
        clock = ap (λ (m : Model). m.body.clock) (sym e) i;
        period = ap (λ (m : Model). m.body.period) (sym e) i;
        number = ap (λ (m : Model). m.body.number) (sym e) i;
        transfer = ap (λ (m : Model). m.body.transfer) (sym e) i;
        store = record { registers = rs i; columns = sym c i; rows = es i };
      };
    }

-- Nothing chosen.

registers_shown : (rs : List Register) → map (hide_register nothing) rs ≡ rs
registers_shown [] = refl
registers_shown (r ∷ rs) = ap (◌∷◌ r) (registers_shown rs)

none_chosen : (cs : List Name) → any_chosen nothing cs ≡ false
none_chosen [] = refl
none_chosen (c ∷ cs) = none_chosen cs

nothing_hidden : (m : Model) → hidden nothing m ≡ m
nothing_hidden m =
    ap₂ (λ (xs : List Register) (rs : List Entry). with_body (with_store (record { registers = xs; columns = m.body.store.columns; rows = rs }) m.body) m)
    (registers_shown m.body.store.registers)
    (rows_kept nothing m.body.store.columns m.body.store.rows (none_chosen m.body.store.columns))

owner_shown : (o : OwnerCall) → hidden_owner nothing o ≡ o
owner_shown (give_registers rs) = ap give_registers (registers_shown rs)
owner_shown (set_value n v) = refl
owner_shown (set_columns cs) = refl
owner_shown (set_period d) = refl
owner_shown (tick t) = refl
owner_shown (set_p5 f) = refl
owner_shown power_up = refl

call_shown : (c : Call) → hidden_call nothing c ≡ c
call_shown (frame a) = refl
call_shown (owner o) = ap owner (owner_shown o)

calls_shown : (cs : List Call) → map (hidden_call nothing) cs ≡ cs
calls_shown [] = refl
calls_shown (c ∷ cs) = ap₂ ◌∷◌ (call_shown c) (calls_shown cs)

pub nothing_chosen : (p : Protocol) → NothingChosen p
nothing_chosen p m₁ m₂ cs₁ cs₂ l e =
    ap₂ (trace p) (sym (calls_shown cs₁) ∙ e ∙ calls_shown cs₂) (sym (nothing_hidden m₁) ∙ l ∙ nothing_hidden m₂)

-- An unchosen profile.

module _ (p : Protocol) (keeps : KeepsLengths p) (ch : Chosen) (m₁ m₂ : Model) (a : Lent) (alike : Alike ch m₁ m₂) where
  -- a frame that comes to no read
  unread_same : (d : Decision) → p.decide m₁.line a ≡ d → decides_read ch d m₁.body ≡ false → (step p (frame a) m₁).sent ≡ (step p (frame a) m₂).sent
  unread_same d e f =
      (same_call p keeps ch (frame a) (frame a) m₁ m₂ refl alike).sent
      (λ g. false≢true (sym f ∙ ap (λ (x : Decision). decides_read ch x m₁.body) (sym e) ∙ g.0))

profile_unread : (ch : Chosen) (n : Name) (v : Service) (s : Store) → same_name profile_named n ≡ true → any_chosen ch s.columns ≡ false → asks_chosen ch n v s ≡ false
profile_unread ch n (get a k) s h e = rw (h, e) (and-false (eqb a 2))
profile_unread ch n (action k v) s h e = refl

pub unchosen_profile : (p : Protocol) → KeepsLengths p → UnchosenProfile p
unchosen_profile p keeps ch m₁ m₂ a q w l alike d h e =
    unread_same p keeps ch m₁ m₂ a alike (serve (ask q) w l) d (profile_unread ch q.name q.service m₁.body.store h e)

pub unchosen_blocks : (p : Protocol) → KeepsLengths p → UnchosenBlocks p
unchosen_blocks p keeps ch m₁ m₂ a i n w l alike d e =
    unread_same p keeps ch m₁ m₂ a alike (serve (go_on i n) w l) d (rw e (and-false (runs m₁.body.transfer)))

-- What counts as a read.

asked_read : (p : Protocol) (ch : Chosen) (a : Lent) (m : Model) (q : Request) (w : Wrap) (l : Line) (v : Service)
    → p.decide m.line a ≡ serve (ask q) w l → q.service ≡ v → asks_chosen ch q.name v m.body.store ≡ true → ChosenRead p ch (frame a) m
asked_read p ch a m q w l (action k v) d e h = absurd (false≢true h)
asked_read p ch a m q w l (get k s) d e h =
    let g = both (eqb k 2) _ h in
    record {
      lent = a;
      request = q;
      wrap = w;
      line = l;
      selection = s;
      call = refl;
      decided = d;
      service = e ∙ ap (λ (i : ℕ). get i s) (eqb-true k 2 g.0);
      asked = which (same_name profile_named q.name) refl g.1;
    }
  where
    which : (b : Bool) → same_name profile_named q.name ≡ b
        → cond b (any_chosen ch m.body.store.columns) (given q.name m.body.store.registers && ch q.name) ≡ true
        → ((same_name profile_named q.name ≡ true) × (any_chosen ch m.body.store.columns ≡ true))
        ⊎ ((given q.name m.body.store.registers ≡ true) × (ch q.name ≡ true))
    which true i x = inl (i, x)
    which false i x = inr (both (given q.name m.body.store.registers) (ch q.name) x)

pub reads_are_chosen : (p : Protocol) → ReadsAreChosen p
reads_are_chosen p ch (frame a) m h = go (p.decide m.line a) refl h
  where
    go : (d : Decision) → p.decide m.line a ≡ d → decides_read ch d m.body ≡ true → ChosenRead p ch (frame a) m ⊎ ChosenBlock p ch (frame a) m
    go (answer s) e x = absurd (false≢true x)
    go (serve (ask q) w l) e x = inl (asked_read p ch a m q w l q.service e refl x)
    go (serve (go_on i n) w l) e x =
        let g = both (runs m.body.transfer) (any_chosen ch m.body.store.columns) x in
        inr (record { lent = a; invoke = i; number = n; wrap = w; line = l; call = refl; decided = e; running = g.0; asked = g.1 })
reads_are_chosen p ch (owner o) m h = absurd (false≢true h)
