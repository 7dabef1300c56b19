-- The page to read first. Where each field of a meter stands in its image: the table of docs/IMAGE.md, proved of every byte string.
-- Beside each field: its part, and its place. `Got part s at x`: x is what the part is read as, from place `at` of s on. The parts
-- (`Codec`): `block n`, n bytes as they are; `byte`; `number w`, in w bytes, high byte first; `flag`, 0 or 1; `phase`, `progress`
-- and `picking_kind`, 0, 1 or 2. Byte 0, the version, and the meter that an image holds (`meter_of`) are in `Image`. The places follow
-- from the order of the fields in `Layout`.
use Rattle.std.specs.Prelude.{List, ℕ, ◌+◌, ◌*◌, ◌<◌, get_or}
use Rattle.model.specs.declared.Register.{Register}
use Rattle.model.specs.Names.{blank_name, blank_register}
use Rattle.store.specs.declared.Row.{Row}
use Rattle.picks.specs.declared.Transfer.{Transfer}
use Rattle.line.specs.declared.Party.{Party}
use Rattle.line.specs.declared.LineState.{LineState}
use Rattle.body.specs.declared.BodyState.{BodyState}
use Rattle.image.specs.Codec.{block, byte, flag, number, phase, progress, picking_kind, Got}
use Rattle.image.specs.Layout.{name_part, clock_part, register_part, row_part, transfer_part}
use Rattle.image.specs.Image.{meter_of}

-- a client whose bytes start at p
pub record PartyAt (s : List ℕ) (p : ℕ) (x : Party) : Type 0 where
  pub title : Got (block 8) s p x.title
  pub up : Got flag s (p + 8) x.up
  pub kind : Got phase s (p + 9) x.phase
  pub agreed : Got (block 3) s (p + 10) x.agreed

pub record LineAt (s : List ℕ) (x : LineState) : Type 0 where
  pub title : Got (block 8) s 1 x.title
  pub verification : PartyAt s 9 x.verification
  pub han : PartyAt s 22 x.han.party
  pub key : Got (block 16) s 35 x.han.key
  pub client : Got (block 8) s 51 x.han.client
  pub meter : Got (block 8) s 59 x.han.meter
  pub accepted : Got (number 4) s 67 x.han.counters.accepted
  pub sent : Got (number 4) s 71 x.han.counters.sent
  pub p5 : Got flag s 75 x.p5

pub record BodyAt (s : List ℕ) (x : BodyState) : Type 0 where
  pub device : Got (block 16) s 76 x.device
  pub clock : Got clock_part s 92 x.clock
  pub period : Got (number 4) s 104 x.period
  pub record_number : Got (number 2) s 108 x.number
  pub register_count : Got (number 8) s 110 x.registers.count
  pub registers : (i : ℕ) → i < 16 → Got register_part s (118 + i * 13) (get_or x.registers.items i blank_register)
  pub column_count : Got (number 8) s 326 x.columns.count
  pub columns : (i : ℕ) → i < 16 → Got name_part s (334 + i * 6) (get_or x.columns.items i blank_name)
  pub row_count : Got (number 8) s 430 x.rows.count
  pub rows : (i : ℕ) (d : Row) → i < 15 → Got row_part s (438 + i * 86) (get_or x.rows.items i d)
  pub transfer : Got transfer_part s 1728 x.transfer

-- a register whose bytes start at p
pub record RegisterAt (s : List ℕ) (p : ℕ) (x : Register) : Type 0 where
  pub name : Got (block 6) s p x.name.bytes
  pub readable : Got flag s (p + 6) x.readable
  pub scaler : Got byte s (p + 7) x.scaler
  pub unit : Got byte s (p + 8) x.unit
  pub value : Got (number 4) s (p + 9) x.value

-- a row whose bytes start at p
pub record RowAt (s : List ℕ) (p : ℕ) (x : Row) : Type 0 where
  pub record_number : Got (number 2) s p x.number
  pub clock : Got (block 12) s (p + 2) x.clock.bytes
  pub count : Got (number 8) s (p + 14) x.count
  pub cells : (i : ℕ) → i < 16 → Got (number 4) s (p + 22 + i * 4) (get_or x.cells i 0)

-- a transfer whose bytes start at p
pub record TransferAt (s : List ℕ) (p : ℕ) (x : Transfer) : Type 0 where
  pub state : Got progress s p x.progress
  pub kind : Got picking_kind s (p + 1) x.picking.kind
  pub after : Got (block 12) s (p + 2) x.picking.after.bytes
  pub until : Got (block 12) s (p + 14) x.picking.until.bytes
  pub from : Got (number 4) s (p + 26) x.picking.from
  pub to : Got (number 4) s (p + 30) x.picking.to
  pub last : Got (number 4) s (p + 34) x.block

-- What is proved: of every byte string, so of every image.
pub record Places : Type 0 where
  pub line : (s : List ℕ) → LineAt s (meter_of s).line
  pub body : (s : List ℕ) → BodyAt s (meter_of s).body
  pub register : (s : List ℕ) (p : ℕ) {x : Register} → Got register_part s p x → RegisterAt s p x
  pub row : (s : List ℕ) (p : ℕ) {x : Row} → Got row_part s p x → RowAt s p x
  pub transfer : (s : List ℕ) (p : ℕ) {x : Transfer} → Got transfer_part s p x → TransferAt s p x
