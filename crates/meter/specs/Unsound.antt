-- Meters that are unsound, each by a small change of one sound meter, in the order of document 01's "A state is sound when ..";
-- and, for document 02, Q-4, each by a small change of one whose rows are long, with a transfer that it could not have been left
-- with. Beside each stand the tests of soundness that it fails: one, save for sixteen rows. proofs/UnsoundExamples computes all
-- of it, and that every owner's call answers 3 to each.
use Rattle.std.specs.Prelude.{◌≡◌, Bool, true, false, cond, ◌&&◌, ℕ, eqb, ltb, leb, length, replicate, set}
use mathlib.Core.List.{List, [], ◌∷◌, map, Memᴰ}
use Rattle.model.specs.declared.Name.{Name}
use Rattle.model.specs.declared.Clock.{Clock}
use Rattle.model.specs.declared.Register.{Register}
use Rattle.model.specs.Limits.{max_registers, max_columns}
use Rattle.model.specs.Names.{every, distinct, all_among, none_among, name_of}
use Rattle.model.specs.State.{Model, with_body, with_store, with_rows}
use Rattle.model.specs.Objects.{own_names, profile_named}
use Rattle.model.specs.declared.SoundnessTest.{SoundnessTest}
use Rattle.model.specs.declared.SoundnessTest.TheVariants.{RegisterList, ColumnList, PeriodPermitted, ClockValid, RowClocksValid, RowCount, RowCells, AssociationKind, AssociationOnLink, AgreedServices, TransferPossible}
use Rattle.model.specs.Soundness.{passes, soundness_tests, sound}
use Rattle.model.specs.Calls.{OwnerCall}
use Rattle.store.specs.Held.{Registers, Columns, Rows}
use Rattle.store.specs.declared.Row.{Row}
use Rattle.store.specs.Lists.{entry_of}
use Rattle.picks.specs.declared.Transfer.{Transfer}
use Rattle.picks.specs.Canonical.{whole_picking, dated_picking, numbered_picking, no_transfer, running_transfer, ended_transfer}
use Rattle.line.specs.declared.Phase.{Phase}
use Rattle.line.specs.declared.Phase.TheVariants.{Idle, Pending, Associated}
use Rattle.line.specs.declared.Party.{Party}
use Rattle.line.specs.declared.LineState.{LineState}
use Rattle.body.specs.declared.BodyState.{BodyState}
use Rattle.meter.specs.declared.Meter.{Meter}
use Rattle.meter.specs.declared.Changed.{Changed}
use Rattle.meter.specs.View.{view}
use Rattle.meter.specs.Promise.{Owned, changed}

-- What is said of a meter.

-- the rules of the two tests on lists, each by itself
pub data ListRule : Type 0 where
  few_registers distinct_registers no_own_names given_columns distinct_columns few_columns : ListRule

abbrev pub meets : ListRule → Model → Bool
meets few_registers m = leb (length m.body.store.registers) max_registers
meets distinct_registers m = distinct (map name_of m.body.store.registers)
meets no_own_names m = none_among own_names (map name_of m.body.store.registers)
meets given_columns m = all_among (map name_of m.body.store.registers) m.body.store.columns
meets distinct_columns m = distinct m.body.store.columns
meets few_columns m = leb (length m.body.store.columns) max_columns

abbrev pub list_rules : List ListRule
list_rules = few_registers ∷ distinct_registers ∷ no_own_names ∷ given_columns ∷ distinct_columns ∷ few_columns ∷ []

-- those of which the test does not hold
abbrev pub failing : {A : Type 0} → (A → Bool) → List A → List A
failing f [] = []
failing f (x ∷ xs) = cond (f x) (failing f xs) (x ∷ failing f xs)

abbrev pub failed_tests : Model → List SoundnessTest
failed_tests m = failing (λ t. passes t m) soundness_tests

abbrev pub failed_rules : Model → List ListRule
failed_rules m = failing (λ r. meets r m) list_rules

-- Whether the struct of the code can hold a meter: each array has its length, and each number fits its type.

abbrev pub array : {A : Type 0} → ℕ → (A → Bool) → List A → Bool
array n f xs = eqb (length xs) n && every (λ i x. f x) 0 xs

abbrev pub bytes : ℕ → List ℕ → Bool
bytes n xs = array n (λ b. ltb b 0x100) xs

abbrev pub u32 : ℕ → Bool
u32 n = ltb n 0x100000000

abbrev pub usize : ℕ → Bool
usize n = ltb n 0x10000000000000000

abbrev pub holds_register : Register → Bool
holds_register r = bytes 6 r.name.bytes && (ltb r.scaler 0x100 && (ltb r.unit 0x100 && u32 r.value))

abbrev pub holds_row : Row → Bool
holds_row r = ltb r.number 0x10000 && (bytes 12 r.clock.bytes && (usize r.count && array 16 u32 r.cells))

abbrev pub holds_transfer : Transfer → Bool
holds_transfer t =
    bytes 12 t.picking.after.bytes
    && (bytes 12 t.picking.until.bytes && (u32 t.picking.from && (u32 t.picking.to && u32 t.block)))

abbrev pub holds_body : BodyState → Bool
holds_body b =
    bytes 16 b.device
    && (bytes 12 b.clock.bytes
    && (u32 b.period
    && (ltb b.number 0x10000
    && (usize b.registers.count
    && (array 16 holds_register b.registers.items
    && (usize b.columns.count
    && (array 16 (λ n. bytes 6 n.bytes) b.columns.items
    && (usize b.rows.count && (array 15 holds_row b.rows.items && holds_transfer b.transfer)))))))))

abbrev pub holds_party : Party → Bool
holds_party p = bytes 8 p.title && bytes 3 p.agreed

abbrev pub holds_line : LineState → Bool
holds_line l =
    bytes 8 l.title
    && (holds_party l.verification
    && (holds_party l.han.party
    && (bytes 16 l.han.key
    && (bytes 8 l.han.client
    && (bytes 8 l.han.meter && (u32 l.han.counters.accepted && u32 l.han.counters.sent))))))

abbrev pub holdable : Meter → Bool
holdable m = holds_line m.line && holds_body m.body

pub record Verdict : Type 0 where
  pub holdable : Bool
  pub is_sound : Bool
  pub tests : List SoundnessTest
  pub rules : List ListRule

abbrev pub verdict : Meter → Verdict
verdict m =
    record { holdable = holdable m; is_sound = sound (view m); tests = failed_tests (view m); rules = failed_rules (view m) }

-- The parts of the sound meter.

abbrev pub name : ℕ → Name
name k = record { bytes = 1 ∷ 0 ∷ k ∷ 8 ∷ 0 ∷ 255 ∷ [] }

abbrev pub names : List Name
names = map name (1 ∷ 2 ∷ 3 ∷ 4 ∷ 5 ∷ 6 ∷ 7 ∷ 8 ∷ 9 ∷ 10 ∷ 11 ∷ 12 ∷ 13 ∷ 14 ∷ 15 ∷ 16 ∷ [])

abbrev pub registers : ℕ → List Name → Registers
registers n ns =
    record { count = n; items = map (λ m. record { name = m; readable = true; scaler = 0; unit = 30; value = 7 }) ns }

abbrev pub columns : ℕ → List Name → Columns
columns n ns = record { count = n; items = ns }

-- a clock of 2017
abbrev pub clock : (month day hour : ℕ) → Clock
clock m d h = record { bytes = 0x07 ∷ 0xE1 ∷ m ∷ d ∷ 0xFF ∷ h ∷ 30 ∷ 0 ∷ 0xFF ∷ 0x80 ∷ 0x00 ∷ 0x00 ∷ [] }

-- a row of a clock, with as many cells
abbrev pub row : Clock → ℕ → Row
row t n = record { number = 4; clock = t; count = n; cells = replicate 16 7 }

-- as many rows, this one first
abbrev pub rows : ℕ → Row → Rows
rows n r = record { count = n; items = r ∷ replicate 14 (row (clock 3 1 2) r.count) }

-- a client whose link is up or down, in a phase, with services whose last two bytes are these
abbrev pub party_of : Bool → Phase → (second third : ℕ) → Party
party_of up p a s = record { title = replicate 8 0x41; up = up; phase = p; agreed = 0x00 ∷ a ∷ s ∷ [] }

-- the same with no block transfer
abbrev pub party : Bool → Phase → ℕ → Party
party up p s = party_of up p 0x00 s

abbrev pub meter_with : Transfer → (verification han : Party) → Clock → (period : ℕ) → Registers → Columns → Rows → Meter
meter_with x v h t p rs cs es =
    record {
      line = record {
        title = replicate 8 0x4D;
        verification = v;
        han = record {
          party = h;
          key = replicate 16 0x5A;
          client = replicate 8 0x43;
          meter = replicate 8 0x44;
          counters = record { accepted = 5; sent = 6 };
        };
        p5 = false;
      };
      body = record {
        device = replicate 16 0x30;
        clock = t;
        period = p;
        number = 4;
        registers = rs;
        columns = cs;
        rows = es;
        transfer = x;
      };
    }

abbrev pub meter_of : (verification han : Party) → Clock → (period : ℕ) → Registers → Columns → Rows → Meter
meter_of v h t p rs cs es = meter_with no_transfer v h t p rs cs es

-- Its own: both clients are associated, three registers are given, two of them are columns, and there are two rows.

abbrev pub v : Party
v = party true Associated 0x14

abbrev pub h : Party
h = party true Associated 0x15

abbrev pub now : Clock
now = clock 3 1 2

abbrev pub three : Registers
three = registers 3 names

abbrev pub two : Columns
two = columns 2 names

abbrev pub taken : Rows
taken = rows 2 (row now 2)

unfoldable pub sound_meter : Meter
sound_meter = meter_of v h now 900 three two taken

-- Meters whose rows are long: sixteen columns and fifteen rows, 1487 bytes, which H reads in three blocks.

-- H in a phase, on its link
abbrev pub reader : Phase → (second third : ℕ) → Party
reader p a s = party_of true p a s

-- all that H is offered was agreed
abbrev pub whole : Party
whole = reader Associated 0x10 0x15

-- beside a reader, with this many columns, all of them in each of fifteen rows
abbrev pub long_meter : Party → ℕ → Transfer → Meter
long_meter r n x = meter_with x v r now 900 (registers 16 names) (columns n names) (rows 15 (row now n))

-- transfers of all rows, of those from one place to another, and of those of a stretch of time, after this block
abbrev pub of_all : ℕ → Transfer
of_all k = running_transfer whole_picking k

abbrev pub of_entries : (from to k : ℕ) → Transfer
of_entries m n k = running_transfer (numbered_picking m n) k

abbrev pub of_range : (after until : Clock) → ℕ → Transfer
of_range a b k = running_transfer (dated_picking a b) k

-- an hour before all rows
abbrev pub before : Clock
before = clock 3 1 1

-- sound: one that was ended, whatever rows there are now; one after each block but the last; of some rows, and of a range
unfoldable pub long_meters : List Meter
long_meters =
    long_meter whole 16 no_transfer
    ∷ long_meter whole 16 ended_transfer
    ∷ meter_with ended_transfer v whole now 900 three two taken
    ∷ long_meter whole 16 (of_all 1)
    ∷ long_meter whole 16 (of_all 2)
    ∷ long_meter (reader Associated 0x10 0x11) 16 (of_all 1)
    ∷ long_meter whole 16 (of_entries 2 0 1)
    ∷ long_meter whole 16 (of_entries 8 0 1)
    ∷ long_meter whole 16 (of_range before now 2)
    ∷ []

-- The unsound meters.

pub record Unsound : Type 0 where
  pub meter : Meter
  pub tests : List SoundnessTest
  pub rules : List ListRule

-- a meter that fails one test, which is not on lists
abbrev pub fails : SoundnessTest → Meter → Unsound
fails t m = record { meter = m; tests = t ∷ []; rules = [] }

-- a meter that fails a test on lists, by these rules
abbrev pub breaks : SoundnessTest → List ListRule → Meter → Unsound
breaks t rs m = record { meter = m; tests = t ∷ []; rules = rs }

unfoldable pub unsound_meters : List Unsound
unsound_meters =
    -- seventeen registers, a count above the capacity; a name twice; the name of the profile
    breaks RegisterList (few_registers ∷ []) (meter_of v h now 900 (registers 17 names) two taken)
    ∷ breaks RegisterList (distinct_registers ∷ []) (meter_of v h now 900 (registers 3 (set names 2 (name 1))) two taken)
    ∷ breaks RegisterList (no_own_names ∷ []) (meter_of v h now 900 (registers 3 (set names 2 profile_named)) two taken)
    -- seventeen columns, a count above the capacity: of sixteen registers one column is then not given; a column twice; a
    -- column whose register stands behind the three that are given
    ∷ breaks ColumnList (given_columns ∷ few_columns ∷ []) (meter_of v h now 900 (registers 16 names) (columns 17 names) (rows 0 (row now 2)))
    ∷ breaks ColumnList (distinct_columns ∷ []) (meter_of v h now 900 three (columns 2 (set names 1 (name 1))) taken)
    ∷ breaks ColumnList (given_columns ∷ []) (meter_of v h now 900 three (columns 2 (set names 1 (name 4))) taken)
    -- a period that is no multiple of 30; one that does not divide 3600
    ∷ fails PeriodPermitted (meter_of v h now 45 three two taken)
    ∷ fails PeriodPermitted (meter_of v h now 210 three two taken)
    -- 29 February 2017, as the meter's clock; hour 24, in a row
    ∷ fails ClockValid (meter_of v h (clock 2 29 2) 900 three two taken)
    ∷ fails RowClocksValid (meter_of v h now 900 three two (rows 2 (row (clock 3 1 24) 2)))
    -- sixteen rows, a count above the capacity: the struct has no clock for the sixteenth, which is then not valid either
    ∷ record { meter = meter_of v h now 900 three (columns 0 names) (rows 16 (row now 0)); tests = RowClocksValid ∷ RowCount ∷ []; rules = [] }
    -- a row with a cell too few; one too many; seventeen, a count above the capacity
    ∷ fails RowCells (meter_of v h now 900 three two (rows 1 (row now 1)))
    ∷ fails RowCells (meter_of v h now 900 three two (rows 1 (row now 3)))
    ∷ fails RowCells (meter_of v h now 900 three two (rows 1 (row now 17)))
    -- an association of V that is pending, which is no kind of V's
    ∷ fails AssociationKind (meter_of (party true Pending 0x14) h now 900 three two taken)
    -- an association of V, and either kind of H, on a link that is down
    ∷ fails AssociationOnLink (meter_of (party false Associated 0x14) h now 900 three two taken)
    ∷ fails AssociationOnLink (meter_of v (party false Pending 0x15) now 900 three two taken)
    ∷ fails AssociationOnLink (meter_of v (party false Associated 0x15) now 900 three two taken)
    -- services agreed with V, and in either kind with H, that are not offered
    ∷ fails AgreedServices (meter_of (party true Associated 0x15) h now 900 three two taken)
    ∷ fails AgreedServices (meter_of v (party true Pending 0x17) now 900 three two taken)
    ∷ fails AgreedServices (meter_of v (party true Associated 0x17) now 900 three two taken)
    -- a transfer that was ended, without an association, without block transfer agreed, and without GET; one that runs without these
    ∷ fails TransferPossible (long_meter (reader Idle 0x10 0x15) 16 ended_transfer)
    ∷ fails TransferPossible (long_meter (reader Associated 0x00 0x15) 16 ended_transfer)
    ∷ fails TransferPossible (long_meter (reader Associated 0x10 0x05) 16 ended_transfer)
    ∷ fails TransferPossible (long_meter (reader Idle 0x10 0x15) 16 (of_all 1))
    ∷ fails TransferPossible (long_meter (reader Associated 0x00 0x15) 16 (of_all 1))
    ∷ fails TransferPossible (long_meter (reader Associated 0x10 0x05) 16 (of_all 1))
    -- while the association is pending: ended, and running
    ∷ fails TransferPossible (long_meter (reader Pending 0x10 0x15) 16 ended_transfer)
    ∷ fails TransferPossible (long_meter (reader Pending 0x10 0x15) 16 (of_all 1))
    -- by a selector, without selective access agreed
    ∷ fails TransferPossible (long_meter (reader Associated 0x10 0x11) 16 (of_entries 2 0 1))
    ∷ fails TransferPossible (long_meter (reader Associated 0x10 0x11) 16 (of_range before now 1))
    -- of a range whose from is not before its to; of ones that begin and end on 29 February 2017; of one in which no row lies; of
    -- entries that would be code 13, by their first place, their order, and more places than rows
    ∷ fails TransferPossible (long_meter whole 16 (of_range now now 1))
    ∷ fails TransferPossible (long_meter whole 16 (of_range (clock 2 29 2) now 1))
    ∷ fails TransferPossible (long_meter whole 16 (of_range before (clock 2 29 2) 1))
    ∷ fails TransferPossible (long_meter whole 16 (of_range (clock 3 1 0) before 1))
    ∷ fails TransferPossible (long_meter whole 16 (of_entries 0 15 1))
    ∷ fails TransferPossible (long_meter whole 16 (of_entries 5 3 1))
    ∷ fails TransferPossible (long_meter whole 16 (of_entries 16 0 1))
    -- of data that fit one frame: six columns, 737 bytes, though not one block; and the last six rows of sixteen
    ∷ fails TransferPossible (long_meter whole 6 (of_all 1))
    ∷ fails TransferPossible (long_meter whole 16 (of_entries 10 0 1))
    -- after block 0; after the last block, of all rows and of fourteen; after a block far behind it
    ∷ fails TransferPossible (long_meter whole 16 (of_all 0))
    ∷ fails TransferPossible (long_meter whole 16 (of_all 3))
    ∷ fails TransferPossible (long_meter whole 16 (of_entries 2 0 2))
    ∷ fails TransferPossible (long_meter whole 16 (of_all 0xFFFFFFFF))
    ∷ []

-- "at most 15 rows" by itself: what the sound meter holds, with sixteen rows that are otherwise as they should be. The
-- struct cannot hold it.
unfoldable pub sixteen_rows : Model
sixteen_rows =
    let m = view sound_meter in
    with_body (with_store (with_rows (replicate 16 (entry_of (row now 2))) m.body.store) m.body) m

-- What is proved of them.

abbrev pub no_fault : Verdict
no_fault = record { holdable = true; is_sound = true; tests = []; rules = [] }

-- the sound meters fail nothing, each of the others what stands beside it and nothing else, and the struct can hold them all
pub record VerdictsRight : Type 0 where
  pub sound : verdict sound_meter ≡ no_fault
  pub long : map verdict long_meters ≡ map (λ m. no_fault) long_meters
  pub unsound :
      map (λ e. verdict e.meter) unsound_meters
      ≡ map (λ e. record { holdable = true; is_sound = false; tests = e.tests; rules = e.rules }) unsound_meters
  pub sixteen : failed_tests sixteen_rows ≡ RowCount ∷ []

-- refusal 3, and the very meter back
abbrev pub Answers3 : Meter → Type 0
Answers3 m = (c : OwnerCall) (r : Changed) → Owned c m r → r ≡ changed 3 m

-- every unsound meter gets it of every owner's call
abbrev pub UnsoundAnswers3 : Type 0
UnsoundAnswers3 = (m : Meter) → sound (view m) ≡ false → Answers3 m

abbrev pub TableAnswers3 : Type 0
TableAnswers3 = (e : Unsound) → Memᴰ e unsound_meters → Answers3 e.meter
