-- A transfer that passes the test of soundness is one that calls leave: `PossibleAreLeft` of specs/Blocks, proved. Its picking can be said by a
-- selection; the read of it is granted, and so is each numbered request up to the block that went out last.
use mathlib.Core.Path.{◌≡◌, refl, sym, ◌∙◌, ap, subst}
use mathlib.Core.Bool.{Bool, true, cond, ◌&&◌}
use mathlib.Core.List.{List, [], ◌∷◌, ◌++◌, map, flat_map}
use Prim.Native.Nat.{ℕ, zero, suc, ◌+◌, ◌-◌, ◌*◌, ◌^◌, ◌<◌}
use native.Mathlib.Nat.{mod-eq_of_lt}
use native.Mathlib.Omega.{arith}
use lib.ListN.{length}
use borrow.Author.Tests.{lt-leb}
use Rattle.wire.specs.Numbers.{high_first, length_field}
use Rattle.wire.specs.Reading.{same_bytes}
use Rattle.wire.proofs.NumberLaws.{high_number}
use Rattle.model.specs.declared.Register.{Register}
use Rattle.model.specs.declared.SoundnessTest.{SoundnessTest}
use Rattle.model.specs.declared.SoundnessTest.TheVariants.{RegisterList, ColumnList, PeriodPermitted, ClockValid, RowClocksValid, RowCount, RowCells, AssociationKind, AssociationOnLink, AgreedServices, TransferPossible}
use Rattle.model.specs.Limits.{longest_sent, block_room, max_rows, max_registers, max_columns}
use Rattle.model.specs.Names.{name_of}
use Rattle.model.specs.Clocks.{valid_clock, real_date, real_time, fixed_bytes, days_in, february_days}
use Rattle.model.specs.Services.{selective_access, block_transfer, get_service}
use Rattle.model.specs.Selecting.{Selection, all, selected, Picking, whole, numbered, dated, picking, range_selector, entry_selector, range_descriptor, is_entry_descriptor, from_entry, to_entry, described_entries, described}
use Rattle.model.specs.State.{Entry, Store, Line, profile, Transfer, idle, running, ended, Body, Model, with_transfer, with_store, with_body, keeping}
use Rattle.model.specs.Objects.{named, Result, row_data, rows_data, picked, picked_rows, fitting, is_last, long_data, Turn}
use Rattle.model.specs.Soundness.{passes, has_agreed, takes_blocks, could_pick, allowed, accepted_registers, accepted_columns, good_picking, rows_allow, sound}
use Rattle.model.specs.Calls.{owner, OwnerCall, give_registers, set_columns, own_refusal, obeyed, Protocol, act, step}
use Rattle.model.specs.Lengths.{rows_of_cells}
use Rattle.model.specs.ByDate.{read_turn}
use Rattle.model.specs.Blocks.{MeasuredPicking, of_all, of_numbers, of_clocks, AfterBlock, first, next, set_up, EndedFrom, PossibleAreLeft}
use Rattle.model.proofs.LimitFacts.{data_room_lem, block_room_lem}
use Rattle.model.proofs.ListLaws.{both, both_true}
use Rattle.model.proofs.SoundnessLaws.{sound_passes, sound_from}
use Rattle.model.proofs.StaySound.{owner_sound}
use Rattle.model.proofs.TransferLaws.{Going, going, going_rows, long_begins, goes_on_lem}
use Rattle.model.proofs.ByDate.{whole_described, range_described, picked_turned}

-- The selection of a picking.

-- "from, to, 1, 0": a structure of two 32-bit and two 16-bit numbers
abbrev pub entry_descriptor : (from to : ℕ) → List ℕ
entry_descriptor from to =
    0x02 ∷ 0x04 ∷ 0x06 ∷ high_first 4 from ++ 0x06 ∷ high_first 4 to ++ 0x12 ∷ 0x00 ∷ 0x01 ∷ 0x12 ∷ 0x00 ∷ 0x00 ∷ []

abbrev pub selection_of : Picking → Selection
selection_of whole = all
selection_of (numbered from to) = selected entry_selector (entry_descriptor from to)
selection_of (dated from to) = selected range_selector (range_descriptor from to)

from_found : (from to : ℕ) → from < 256 ^ 4 → from_entry (entry_descriptor from to) ≡ from
from_found from to h = high_number 4 from ∙ mod-eq_of_lt h

to_found : (from to : ℕ) → to < 256 ^ 4 → to_entry (entry_descriptor from to) ≡ to
to_found from to h = high_number 4 to ∙ mod-eq_of_lt h

pub entries_described : (from to : ℕ) → from < 256 ^ 4 → to < 256 ^ 4 → described true (selection_of (numbered from to)) ≡ picking (numbered from to)
unfolding described described_entries is_entry_descriptor
entries_described from to f t = rw (from_found from to f, to_found from to t)

-- a good picking is what its selection means, where a selector was agreed on
said : (l : Line) (p : Picking) → MeasuredPicking p → good_picking p ≡ true → could_pick p l ≡ true → described (has_agreed selective_access l) (selection_of p) ≡ picking p
said l p of_all g e = whole_described (has_agreed selective_access l)
said l p (of_numbers {from} {to} f t) g e = rw e (entries_described from to f t)
said l p (of_clocks {from} {to} f t) g e = rw e (range_described from to f t g)

-- One that runs.

module _ (l : Line) (b : Body) (p : Picking) (agreed : takes_blocks l && could_pick p l ≡ true) (measured : MeasuredPicking p) where
  abbrev at_block : ℕ → Body
  at_block k = with_transfer (running (profile p) k) b

  services : (has_agreed get_service l ≡ true) × (has_agreed block_transfer l ≡ true)
  services = both (has_agreed get_service l) (has_agreed block_transfer l) (both (takes_blocks l) (could_pick p l) agreed).0

  -- the read begins
  first_left : Going b.store (profile p) 1 → AfterBlock l (with_transfer idle b) 1 (at_block 1)
  first_left h =
      let s = selection_of p in
      let d = long_data (profile p) b.store in
      let means = said l p measured h.granted (both (takes_blocks l) (could_pick p l) agreed).1 in
      let u =
      picked_turned (has_agreed selective_access l) (has_agreed block_transfer l) 0 s p (picked_rows (picked p b.store.rows)) (with_transfer idle b) means (going_rows p b.store h.long)
      ∙ ap (λ (z : Bool). read_turn 0 (fitting z (running (profile p) 1) d) (with_transfer idle b)) services.1
      ∙ ap (λ (r : Result). read_turn 0 r (with_transfer idle b)) (long_begins (running (profile p) 1) d refl h.long) in
      subst (AfterBlock l (with_transfer idle b) 1) (ap (λ (t : Turn). t.body) u) (first 0 s services.0 (ap (λ (t : Turn). t.refusal) u))

  -- and each numbered request goes on
  next_left : (k : ℕ) → AfterBlock l (with_transfer idle b) k (at_block k) → block_room longest_sent * (k + 1) < length (long_data (profile p) b.store) → AfterBlock l (with_transfer idle b) (k + 1) (at_block (k + 1))
  unfolding is_last
  next_left k a h =
      let d = long_data (profile p) b.store in
      let u = goes_on_lem 0 k (profile p) (at_block k) refl in
      subst (AfterBlock l (with_transfer idle b) (k + 1))
      (ap (λ (t : Turn). t.body) u ∙ ap (λ (z : Bool). with_transfer (cond z idle (running (profile p) (k + 1))) b) (lt-leb (length d) (block_room longest_sent * (k + 1)) h))
      (next 0 k a (ap (λ (t : Turn). t.refusal) u))

  blocks_left : (n : ℕ) → Going b.store (profile p) (n + 1) → AfterBlock l (with_transfer idle b) (n + 1) (at_block (n + 1))
  blocks_left zero h = first_left h
  blocks_left (suc n) h =
      let m = rw block_room_lem at h.more in
      let e : n + 1 + 1 ≡ suc n + 1 = omega arith in
      let before = blocks_left n (record { granted = h.granted; long = h.long; some = omega arith; more = rw block_room_lem (omega (arith, m)) }) in
      subst (λ (j : ℕ). AfterBlock l (with_transfer idle b) j (at_block j)) e (next_left (n + 1) before (rw block_room_lem (omega (arith, m))))

-- One that was ended: before, the rows were fifteen of seven columns.

abbrev ended_register : ℕ → Register
ended_register n = record { name = named 1 0 n 8 0 255; readable = true; scaler = 0; unit = 30; value = 0 }

abbrev ended_store : Store
ended_store =
    let rs = map ended_register (1 ∷ 2 ∷ 3 ∷ 4 ∷ 5 ∷ 6 ∷ 7 ∷ []) in keeping rs (map name_of rs) (rows_of_cells 7)

ended_goes : rows_allow ended_store (running (profile whole) 1) ≡ true
unfolding rows_allow max_rows rows_data row_data flat_map length_field
ended_goes = rw (data_room_lem, block_room_lem)

-- an owner's call that is not refused
obeys : (p : Protocol) (o : OwnerCall) (m : Model) → sound m ≡ true → own_refusal o m ≡ 0 → (step p (owner o) m).next ≡ obeyed o m
unfolding step act
obeys p o m s z = rw (s, z)

module _ (m : Model) (s : sound m ≡ true) (e : m.body.transfer ≡ ended) where
  abbrev before_end : Model
  before_end = with_body (with_transfer (running (profile whole) 1) (with_store ended_store m.body)) m

  still_allowed : allowed m.line (running (profile whole) 1) ≡ true
  unfolding allowed
  still_allowed = both_true (rw e at (both (allowed m.line m.body.transfer) (rows_allow m.body.store m.body.transfer) (sound_passes m s TransferPossible)).0) refl

  before_passes : (t : SoundnessTest) → passes t before_end ≡ true
  unfolding accepted_registers accepted_columns same_bytes valid_clock real_date real_time fixed_bytes days_in february_days max_rows max_registers max_columns
  before_passes RegisterList = refl
  before_passes ColumnList = refl
  before_passes PeriodPermitted = sound_passes m s PeriodPermitted
  before_passes ClockValid = sound_passes m s ClockValid
  before_passes RowClocksValid = refl
  before_passes RowCount = refl
  before_passes RowCells = refl
  before_passes AssociationKind = sound_passes m s AssociationKind
  before_passes AssociationOnLink = sound_passes m s AssociationOnLink
  before_passes AgreedServices = sound_passes m s AgreedServices
  before_passes TransferPossible = both_true still_allowed ended_goes

  before_sound : sound before_end ≡ true
  before_sound = sound_from before_end before_passes

  -- where there are no rows: the registers are accepted, the meter is sound then, and the columns are
  set_up_lem : m.body.store.rows ≡ [] → (p : Protocol) → set_up p m.body.store.registers m.body.store.columns before_end ≡ m
  set_up_lem n p =
      let rs = m.body.store.registers in
      let cs = m.body.store.columns in
      let given : own_refusal (give_registers rs) before_end ≡ 0 = rw (sound_passes m s RegisterList) in
      let chosen : own_refusal (set_columns cs) (obeyed (give_registers rs) before_end) ≡ 0 = rw (sound_passes m s ColumnList) in
      ap (λ (x : Model). (step p (owner (set_columns cs)) x).next) (obeys p (give_registers rs) before_end before_sound given)
      ∙ obeys p (set_columns cs) (obeyed (give_registers rs) before_end) (owner_sound before_end before_sound (give_registers rs) given) chosen
      ∙ ap (λ (t : Transfer). with_body (with_transfer t (with_store (keeping rs cs []) m.body)) m) (sym e)
      ∙ ap (λ (xs : List Entry). with_body (with_store (keeping rs cs xs) m.body) m) (sym n)

  ended_from : EndedFrom m
  ended_from =
      record {
        before = before_end;
        is_sound = before_sound;
        line = refl;
        running = refl;
        becomes = ap (λ (t : Transfer). with_transfer t m.body) (sym e);
        emptied = set_up_lem;
      }

pub possible_are_left : PossibleAreLeft
unfolding allowed
possible_are_left =
    record {
      running =
          λ l b p k a g measured.
          let h = going b.store (profile p) k g in
          let n : k - 1 + 1 ≡ k = omega (arith, h.some) in
          subst (λ (j : ℕ). AfterBlock l (with_transfer idle b) j (with_transfer (running (profile p) j) b)) n
          (blocks_left l b p a measured (k - 1) (subst (Going b.store (profile p)) (sym n) h));
      ended = ended_from;
    }
