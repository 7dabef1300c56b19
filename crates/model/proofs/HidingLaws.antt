-- Hiding the chosen values commutes with every operation on the store, and no test and no length sees a value.
use mathlib.Core.Path.{◌≡◌, refl, sym, ◌∙◌, ap, ap₂}
use mathlib.Core.Bool.{Bool, true, false, cond, ◌&&◌}
use mathlib.Core.List.{List, [], ◌∷◌, ◌++◌, map, flat_map}
use Prim.Native.Nat.{ℕ, suc, ◌+◌, ◌-◌}
use lib.ListN.{length, get_or, set, take, drop, length-map, get_or-map}
use lib.Dec.{eqb, leb}
use Rattle.wire.specs.Numbers.{length_field}
use Rattle.wire.proofs.NumberLaws.{length_high}
use Rattle.model.specs.declared.Name.{Name}
use Rattle.model.specs.declared.Register.{Register}
use Rattle.model.specs.declared.Clock.{Clock}
use Rattle.model.specs.Limits.{max_rows}
use Rattle.model.specs.Names.{seat, place, given, bearing, blank_register, with_value, assigned, name_of}
use Rattle.model.specs.Clocks.{clock_data, valid_clock, in_range}
use Rattle.model.specs.Selecting.{Picking, whole, numbered, dated}
use Rattle.model.specs.State.{Entry, Store, Long, profile, Transfer, idle, running, ended, Body, Model, with_cells}
use Rattle.model.specs.declared.SoundnessTest.{SoundnessTest}
use Rattle.model.specs.declared.SoundnessTest.TheVariants.{RegisterList, ColumnList, PeriodPermitted, ClockValid, RowClocksValid, RowCount, RowCells, AssociationKind, AssociationOnLink, AgreedServices, TransferPossible}
use Rattle.model.specs.Soundness.{passes, accepted_registers, accepted_columns, allowed, rows_allow, soundness_tests, sound}
use Rattle.model.specs.Objects.{unsigned16, unsigned32, row_data, rows_data, Picked, these, wrong, entries_wrong, last_entry, rows_between, entries, rows_within, picked, picked_rows, long_data}
use Rattle.model.specs.Calls.{cells_now, row_now}
use Rattle.model.specs.Demand3.{Chosen, hide, hide_register, hide_cells, hide_entry, hide_store, hide_body, hidden, any_chosen}
use Rattle.model.proofs.ListLaws.{neither, every_same, length_both, map_take, map_drop, map_set, every_map, length_flat_map}
use Rattle.model.proofs.NameLaws.{given_bears, not_given}

pub hide_hide : (b : Bool) (v : ℕ) → hide b (hide b v) ≡ hide b v
hide_hide true v = refl
hide_hide false v = refl

module _ (ch : Chosen) where
  -- hiding twice is hiding once

  pub cells_twice : (cs : List Name) (vs : List ℕ) → hide_cells ch cs (hide_cells ch cs vs) ≡ hide_cells ch cs vs
  cells_twice cs [] = refl
  cells_twice [] (v ∷ vs) = refl
  cells_twice (c ∷ cs) (v ∷ vs) = ap₂ ◌∷◌ (hide_hide (ch c) v) (cells_twice cs vs)

  pub registers_twice : (rs : List Register) → map (hide_register ch) (map (hide_register ch) rs) ≡ map (hide_register ch) rs
  registers_twice [] = refl
  registers_twice (r ∷ rs) = ap₂ ◌∷◌ (ap (λ v. with_value v r) (hide_hide (ch r.name) r.value)) (registers_twice rs)

  pub rows_twice : (cs : List Name) (rs : List Entry) → map (hide_entry ch cs) (map (hide_entry ch cs) rs) ≡ map (hide_entry ch cs) rs
  rows_twice cs [] = refl
  rows_twice cs (r ∷ rs) =
      ap₂ ◌∷◌ (ap (λ (vs : List ℕ). with_cells vs r) (cells_twice cs r.cells)) (rows_twice cs rs)

  pub store_twice : (s : Store) → hide_store ch (hide_store ch s) ≡ hide_store ch s
  store_twice s = λ i. record { registers = registers_twice s.registers i; columns = s.columns; rows = rows_twice s.columns s.rows i }

  -- names and lengths are seen, values are not

  pub names_hidden : (rs : List Register) → map name_of (map (hide_register ch) rs) ≡ map name_of rs
  names_hidden [] = refl
  names_hidden (r ∷ rs) = ap (◌∷◌ r.name) (names_hidden rs)

  pub place_hidden : (n : Name) (rs : List Register) → place n (map (hide_register ch) rs) ≡ place n rs
  place_hidden n rs = ap (seat n) (names_hidden rs)

  pub given_hidden : (n : Name) (rs : List Register) → given n (map (hide_register ch) rs) ≡ given n rs
  given_hidden n rs = simp (names_hidden)

  pub length_cells : (cs : List Name) (vs : List ℕ) → length (hide_cells ch cs vs) ≡ length vs
  length_cells cs [] = refl
  length_cells [] (v ∷ vs) = refl
  length_cells (c ∷ cs) (v ∷ vs) = ap suc (length_cells cs vs)

  -- a register by its name

  blank_hidden : hide_register ch blank_register ≡ blank_register
  blank_hidden = λ i. with_value (go (ch blank_register.name) i) blank_register
    where
      go : (b : Bool) → hide b 0 ≡ 0
      go true = refl
      go false = refl

  pub bearing_hidden : (n : Name) (rs : List Register) → bearing n (map (hide_register ch) rs) ≡ hide_register ch (bearing n rs)
  bearing_hidden n rs =
      rw (place_hidden n rs)
      (ap (get_or (map (hide_register ch) rs) (place n rs)) (sym blank_hidden) ∙ get_or-map (hide_register ch) rs (place n rs) blank_register)

  pub assigned_hidden : (n : Name) (v : ℕ) (rs : List Register) → given n rs ≡ true
      → map (hide_register ch) (assigned n (hide (ch n) v) (map (hide_register ch) rs)) ≡ map (hide_register ch) (assigned n v rs)
  assigned_hidden n v rs g =
      map_set (hide_register ch) (map (hide_register ch) rs) (place n (map (hide_register ch) rs)) (with_value (hide (ch n) v) (bearing n (map (hide_register ch) rs)))
      ∙ ap₂ (λ (k : ℕ) (r : Register). set (map (hide_register ch) (map (hide_register ch) rs)) k (hide_register ch (with_value (hide (ch n) v) r))) (place_hidden n rs) (bearing_hidden n rs)
      ∙ ap₂ (λ (xs : List Register) (r : Register). set xs (place n rs) r) (registers_twice rs) (written (bearing n rs) (given_bears n rs g))
      ∙ sym (map_set (hide_register ch) rs (place n rs) (with_value v (bearing n rs)))
    where
      written : (r : Register) → r.name ≡ n → hide_register ch (with_value (hide (ch n) v) (hide_register ch r)) ≡ hide_register ch (with_value v r)
      written r e = ap (λ (x : ℕ). with_value x r) (ap (λ (m : Name). hide (ch m) (hide (ch n) v)) e ∙ hide_hide (ch n) v ∙ ap (λ (m : Name). hide (ch m) v) (sym e))

  -- a value is hidden as its register's name is, and as that of its column
  column_hidden : (c : Name) (rs : List Register) (b : Bool) → given c rs ≡ b
      → hide (ch c) (hide (ch (bearing c rs).name) (bearing c rs).value) ≡ hide (ch c) (bearing c rs).value
  column_hidden c rs true g = rw (given_bears c rs g) (hide_hide (ch c) (bearing c rs).value)
  column_hidden c rs false g = rw (not_given c rs g) (ap (hide (ch c)) (ap (λ (r : Register). r.value) blank_hidden))

  -- cells taken from hidden registers, once hidden, are those taken from the registers, hidden
  pub cells_now_lem : (rs : List Register) (cs : List Name) → hide_cells ch cs (cells_now (map (hide_register ch) rs) cs) ≡ hide_cells ch cs (cells_now rs cs)
  cells_now_lem rs [] = refl
  cells_now_lem rs (c ∷ cs) =
      ap₂ ◌∷◌ (ap (λ (r : Register). hide (ch c) r.value) (bearing_hidden c rs) ∙ column_hidden c rs (given c rs) refl) (cells_now_lem rs cs)

  -- the rows of a profile

  pub row_hidden : (t : Clock) (b : Body) → hide_entry ch b.store.columns (row_now t (hide_body ch b)) ≡ hide_entry ch b.store.columns (row_now t b)
  row_hidden t b = ap (λ (vs : List ℕ). with_cells vs (row_now t b)) (cells_now_lem b.store.registers b.store.columns)

  pub rows_pushed : (k : ℕ) (cs : List Name) (r₁ r₂ : Entry) (rs : List Entry) → hide_entry ch cs r₁ ≡ hide_entry ch cs r₂
      → map (hide_entry ch cs) (take k (r₁ ∷ map (hide_entry ch cs) rs)) ≡ map (hide_entry ch cs) (take k (r₂ ∷ rs))
  rows_pushed k cs r₁ r₂ rs e =
      map_take (hide_entry ch cs) k (r₁ ∷ map (hide_entry ch cs) rs)
      ∙ ap₂ (λ (x : Entry) (xs : List Entry). take k (x ∷ xs)) e (rows_twice cs rs)
      ∙ sym (map_take (hide_entry ch cs) k (r₂ ∷ rs))

  -- what is not hidden

  pub cells_kept : (cs : List Name) (vs : List ℕ) → any_chosen ch cs ≡ false → hide_cells ch cs vs ≡ vs
  cells_kept cs [] e = refl
  cells_kept [] (v ∷ vs) e = refl
  cells_kept (c ∷ cs) (v ∷ vs) e = let h = neither (ch c) (any_chosen ch cs) e in ap₂ ◌∷◌ (rw h.0) (cells_kept cs vs h.1)

  pub rows_kept : (cs : List Name) (rs : List Entry) → any_chosen ch cs ≡ false → map (hide_entry ch cs) rs ≡ rs
  rows_kept cs [] e = refl
  rows_kept cs (r ∷ rs) e =
      ap₂ ◌∷◌ (ap (λ (vs : List ℕ). with_cells vs r) (cells_kept cs r.cells e)) (rows_kept cs rs e)

  -- lengths

  length_unsigned : (v : ℕ) → length (unsigned32 v) ≡ 5
  length_unsigned v = ap suc (length_high 4 v)

  length_flat_cells : (cs : List Name) (vs : List ℕ) → length (flat_map unsigned32 (hide_cells ch cs vs)) ≡ length (flat_map unsigned32 vs)
  unfolding flat_map
  length_flat_cells cs [] = refl
  length_flat_cells [] (v ∷ vs) = refl
  length_flat_cells (c ∷ cs) (v ∷ vs) =
      length_both (unsigned32 (hide (ch c) v)) (unsigned32 v) (flat_map unsigned32 (hide_cells ch cs vs)) (flat_map unsigned32 vs)
      (length_unsigned (hide (ch c) v) ∙ sym (length_unsigned v)) (length_flat_cells cs vs)

  pub length_row : (cs : List Name) (r : Entry) → length (row_data (hide_entry ch cs r)) ≡ length (row_data r)
  unfolding row_data
  length_row cs r =
      length_both (head (length (hide_cells ch cs r.cells))) (head (length r.cells))
      (flat_map unsigned32 (hide_cells ch cs r.cells)) (flat_map unsigned32 r.cells)
      (ap (λ (k : ℕ). length (head k)) (length_cells cs r.cells)) (length_flat_cells cs r.cells)
    where
      head : ℕ → List ℕ
      head k = 0x02 ∷ length_field (2 + k) ++ unsigned16 r.number ++ clock_data r.clock

  pub length_rows : (cs : List Name) (rs : List Entry) → length (rows_data (map (hide_entry ch cs) rs)) ≡ length (rows_data rs)
  unfolding rows_data
  length_rows cs rs =
      length_both (0x01 ∷ length_field (length (map (hide_entry ch cs) rs))) (0x01 ∷ length_field (length rs))
      (flat_map row_data (map (hide_entry ch cs) rs)) (flat_map row_data rs)
      (ap (λ (k : ℕ). length (0x01 ∷ length_field k)) (length-map rs (hide_entry ch cs)))
      (length_flat_map row_data (hide_entry ch cs) (length_row cs) rs)

  -- the rows that are picked, hidden before or after

  abbrev pub hide_picked : List Name → Picked → Picked
  hide_picked cs (these rs) = these (map (hide_entry ch cs) rs)
  hide_picked cs (wrong c) = wrong c

  picked_if : (cs : List Name) (b : Bool) (x y x' y' : Picked) → x' ≡ hide_picked cs x → y' ≡ hide_picked cs y → cond b x' y' ≡ hide_picked cs (cond b x y)
  picked_if cs true x y x' y' p q = p
  picked_if cs false x y x' y' p q = q

  entries_hidden : (cs : List Name) (from to : ℕ) (rs : List Entry) → entries from to (map (hide_entry ch cs) rs) ≡ hide_picked cs (entries from to rs)
  unfolding entries
  entries_hidden cs from to rs =
      rw (length-map rs (hide_entry ch cs))
      (picked_if cs (entries_wrong from to (length rs)) (wrong 13) (these (rows_between from last rs)) (wrong 13)
      (these (rows_between from last (map (hide_entry ch cs) rs))) refl
      (ap these (ap (take (last - (from - 1))) (sym (map_drop (hide_entry ch cs) (from - 1) rs)) ∙ sym (map_take (hide_entry ch cs) (last - (from - 1)) (drop (from - 1) rs)))))
    where
      last : ℕ
      last = last_entry to (length rs)

  within_hidden : (cs : List Name) (from to : Clock) (rs : List Entry) → rows_within from to (map (hide_entry ch cs) rs) ≡ map (hide_entry ch cs) (rows_within from to rs)
  within_hidden cs from to [] = refl
  within_hidden cs from to (r ∷ rs) = go (in_range from to r.clock) (within_hidden cs from to rs)
    where
      go : (b : Bool) → rows_within from to (map (hide_entry ch cs) rs) ≡ map (hide_entry ch cs) (rows_within from to rs)
          → cond b (hide_entry ch cs r ∷ rows_within from to (map (hide_entry ch cs) rs)) (rows_within from to (map (hide_entry ch cs) rs))
          ≡ map (hide_entry ch cs) (cond b (r ∷ rows_within from to rs) (rows_within from to rs))
      go true ih = ap (◌∷◌ (hide_entry ch cs r)) ih
      go false ih = ih

  pub picked_hidden : (cs : List Name) (p : Picking) (rs : List Entry) → picked p (map (hide_entry ch cs) rs) ≡ hide_picked cs (picked p rs)
  picked_hidden cs whole rs = refl
  picked_hidden cs (numbered from to) rs = entries_hidden cs from to rs
  picked_hidden cs (dated from to) rs = ap these (within_hidden cs from to rs)

  rows_picked : (cs : List Name) (w : Picked) → picked_rows (hide_picked cs w) ≡ map (hide_entry ch cs) (picked_rows w)
  rows_picked cs (these rs) = refl
  rows_picked cs (wrong c) = refl

  -- the data of a long read: equally long, and the same where no column is chosen

  long_hidden : (p : Picking) (s : Store) → long_data (profile p) (hide_store ch s) ≡ rows_data (map (hide_entry ch s.columns) (picked_rows (picked p s.rows)))
  long_hidden p s =
      ap (λ (w : Picked). rows_data (picked_rows w)) (picked_hidden s.columns p s.rows)
      ∙ ap rows_data (rows_picked s.columns (picked p s.rows))

  pub long_length : (x : Long) (s : Store) → length (long_data x (hide_store ch s)) ≡ length (long_data x s)
  long_length (profile p) s = ap length (long_hidden p s) ∙ length_rows s.columns (picked_rows (picked p s.rows))

  pub long_kept : (x : Long) (s : Store) → any_chosen ch s.columns ≡ false → long_data x (hide_store ch s) ≡ long_data x s
  long_kept (profile p) s e = long_hidden p s ∙ ap rows_data (rows_kept s.columns (picked_rows (picked p s.rows)) e)

  -- whether more blocks come

  rows_allow_hidden : (s : Store) (t : Transfer) → rows_allow (hide_store ch s) t ≡ rows_allow s t
  unfolding rows_allow
  rows_allow_hidden s idle = refl
  rows_allow_hidden s (running x k) = rw (long_length x s)
  rows_allow_hidden s ended = refl

  -- soundness sees no value

  pub accepted_hidden : (rs : List Register) → accepted_registers (map (hide_register ch) rs) ≡ accepted_registers rs
  unfolding accepted_registers
  accepted_hidden rs = simp (names_hidden, length-map)

  pub columns_hidden : (rs : List Register) (cs : List Name) → accepted_columns (map (hide_register ch) rs) cs ≡ accepted_columns rs cs
  unfolding accepted_columns
  columns_hidden rs cs = simp names_hidden

  pub passes_hidden : (t : SoundnessTest) (m : Model) → passes t (hidden ch m) ≡ passes t m
  passes_hidden RegisterList m = accepted_hidden m.body.store.registers
  passes_hidden ColumnList m = columns_hidden m.body.store.registers m.body.store.columns
  passes_hidden PeriodPermitted m = refl
  passes_hidden ClockValid m = refl
  passes_hidden RowClocksValid m = every_map (λ i r. valid_clock r.clock) (hide_entry ch m.body.store.columns) 0 m.body.store.rows
  passes_hidden RowCount m = ap (λ (n : ℕ). leb n max_rows) (length-map m.body.store.rows (hide_entry ch m.body.store.columns))
  passes_hidden RowCells m =
      every_map (λ i r. eqb (length r.cells) (length m.body.store.columns)) (hide_entry ch m.body.store.columns) 0 m.body.store.rows
      ∙ simp length_cells
  passes_hidden AssociationKind m = refl
  passes_hidden AssociationOnLink m = refl
  passes_hidden AgreedServices m = refl
  passes_hidden TransferPossible m = ap (◌&&◌ (allowed m.line m.body.transfer)) (rows_allow_hidden m.body.store m.body.transfer)

  pub sound_hidden : (m : Model) → sound (hidden ch m) ≡ sound m
  unfolding sound
  sound_hidden m = every_same (λ t. passes_hidden t m) 0 soundness_tests
