-- What a meter holds by documents 01 and 02: the line, which decides what a frame comes to and never sees a register's value, and
-- the body, which answers an opened request and never sees a key. Lists hold exactly what is there.
use Rattle.std.specs.Prelude.{Bool, true, false, List, [], ◌∷◌, ℕ}
use Rattle.model.specs.declared.Name.{Name}
use Rattle.model.specs.declared.Clock.{Clock}
use Rattle.model.specs.declared.Register.{Register}
use Rattle.model.specs.declared.Counters.{Counters}
use Rattle.model.specs.Selecting.{Picking}

-- The line.

-- An association carries what it holds, so that one that has ended holds nothing: agreed services of three bytes, a
-- dedicated key of 16, challenges of 8. A client without ciphering has no dedicated key: the empty list.
pub data Association : Type 0 where
  none : Association
  -- agreed services, dedicated key, the client's challenge, the meter's challenge
  pending : (agreed key client meter : List ℕ) → Association
  -- agreed services, dedicated key
  associated : (agreed key : List ℕ) → Association

-- A client as the meter knows it: its title of 8 bytes, whether its link is up, its association.
pub record Peer : Type 0 where
  pub title : List ℕ
  pub up : Bool
  pub association : Association

-- A client that ciphers has counters besides.
pub record CipheringPeer : Type 0 where
  pub peer : Peer
  pub counters : Counters

-- The meter's title, "V", "H", and the "P5 flag".
pub record Line : Type 0 where
  pub title : List ℕ
  pub verification : Peer
  pub han : CipheringPeer
  pub p5 : Bool

-- The body.

-- A "row" of the profile: its record number, its clock, a "cell" for each column.
pub record Entry : Type 0 where
  pub number : ℕ
  pub clock : Clock
  pub cells : List ℕ

-- What register values flow through: the registers, the columns by the names of their registers, the rows, newest first.
pub record Store : Type 0 where
  pub registers : List Register
  pub columns : List Name
  pub rows : List Entry

-- A read whose data may be too long for one frame: what was asked. Its data stand in the store, and no copy of them is kept.
pub data Long : Type 0 where
  profile : Picking → Long

-- The "transfer" of H: none; one that runs, with the number of the block that went out last; one that was "ended meanwhile".
pub data Transfer : Type 0 where
  idle : Transfer
  running : (read : Long) → (block : ℕ) → Transfer
  ended : Transfer

-- The device name of 16 bytes, the clock, the capture period in seconds, the record number, H's transfer, and the store.
pub record Body : Type 0 where
  pub device : List ℕ
  pub clock : Clock
  pub period : ℕ
  pub number : ℕ
  pub transfer : Transfer
  pub store : Store

-- What a meter holds.
pub record Model : Type 0 where
  pub line : Line
  pub body : Body

-- A part replaced, all else as it was.

abbrev pub with_line : Line → Model → Model
with_line l m = record { line = l; body = m.body }

abbrev pub with_body : Body → Model → Model
with_body b m = record { line = m.line; body = b }

abbrev pub with_store : Store → Body → Body
with_store s b =
    record { device = b.device; clock = b.clock; period = b.period; number = b.number; transfer = b.transfer; store = s }

abbrev pub with_clock : Clock → Body → Body
with_clock t b =
    record { device = b.device; clock = t; period = b.period; number = b.number; transfer = b.transfer; store = b.store }

abbrev pub with_period : ℕ → Body → Body
with_period p b =
    record { device = b.device; clock = b.clock; period = p; number = b.number; transfer = b.transfer; store = b.store }

abbrev pub with_number : ℕ → Body → Body
with_number n b =
    record { device = b.device; clock = b.clock; period = b.period; number = n; transfer = b.transfer; store = b.store }

abbrev pub with_transfer : Transfer → Body → Body
with_transfer t b =
    record { device = b.device; clock = b.clock; period = b.period; number = b.number; transfer = t; store = b.store }

-- the store of these: the one maker of a store that gets rows, so that what goes with them stands in one place
abbrev pub keeping : List Register → List Name → List Entry → Store
keeping xs cs rs = record { registers = xs; columns = cs; rows = rs }

abbrev pub with_rows : List Entry → Store → Store
with_rows rs s = keeping s.registers s.columns rs

abbrev pub with_registers : List Register → Store → Store
with_registers xs s = record { registers = xs; columns = s.columns; rows = s.rows }

abbrev pub with_cells : List ℕ → Entry → Entry
with_cells vs r = record { number = r.number; clock = r.clock; cells = vs }

-- Transfers.

abbrev pub runs : Transfer → Bool
runs idle = false
runs (running x k) = true
runs ended = false

-- "ends the transfer": one that runs; the rows are no longer those that it read
abbrev pub broken : Transfer → Transfer
broken idle = idle
broken (running x k) = ended
broken ended = ended

-- other rows, as "a capture, profile reset, column change or new registers" bring them
abbrev pub with_other_rows : Store → Body → Body
with_other_rows s b = with_transfer (broken b.transfer) (with_store s b)

-- The line.

abbrev pub with_p5 : Bool → Line → Line
with_p5 f l = record { title = l.title; verification = l.verification; han = l.han; p5 = f }

-- The new meter, its name and titles taken as given.

abbrev pub new_peer : List ℕ → Peer
new_peer t = record { title = t; up = false; association = none }

abbrev pub no_counters : Counters
no_counters = record { accepted = 0; sent = 0 }

abbrev pub new_clock : Clock
new_clock =
    record { bytes = 0x07 ∷ 0xE1 ∷ 0x01 ∷ 0x01 ∷ 0xFF ∷ 0x00 ∷ 0x00 ∷ 0x00 ∷ 0xFF ∷ 0x80 ∷ 0x00 ∷ 0x00 ∷ [] }

unfoldable pub new_meter : (device title verification han : List ℕ) → Model
new_meter d t v h =
    record {
      line = record { title = t; verification = new_peer v; han = record { peer = new_peer h; counters = no_counters }; p5 = false };
      body = record { device = d; clock = new_clock; period = 60; number = 0; transfer = idle; store = keeping [] [] [] };
    }
