-- Owner's calls as they are lent: bytes and numbers, of which a call on a meter is made where they are taken.
use Rattle.std.specs.Prelude.{List, ℕ, eqb}
use Rattle.model.specs.Calls.{OwnerCall, give_registers, set_value, set_columns, set_period, tick, set_p5, power_up}
use Rattle.image.specs.Layout.{name_part, register_part}
use Rattle.image.specs.Lists.{whole_list, list_in}
use Rattle.owner_calls.specs.Refusals.{wrong_argument, fault_of, sized, is_flag}

-- one constructor for each call on a meter that its owner makes
pub data LentOwner : Type 0 where
  registers : (records : List ℕ) → LentOwner
  value : (name : List ℕ) → (value : ℕ) → LentOwner
  columns : (names : List ℕ) → LentOwner
  period : ℕ → LentOwner
  clock : (bytes : List ℕ) → LentOwner
  p5 : (held : ℕ) → LentOwner
  powered : LentOwner

-- the fault of what is lent, or 0 where it is taken: "register list bad", "no such register", "column list bad", "clock value not valid"
-- where it is no whole records, no name, no whole names, no clock; a period is tested by the call itself
abbrev pub fault : LentOwner → ℕ
fault (registers s) = fault_of (whole_list register_part s) 16
fault (value n v) = fault_of (sized 6 n) 17
fault (columns s) = fault_of (whole_list name_part s) 18
fault (period d) = 0
fault (clock t) = fault_of (sized 12 t) 14
fault (p5 h) = fault_of (is_flag h) wrong_argument
fault powered = 0

-- the call on a meter that is then made
abbrev pub owner_of : LentOwner → OwnerCall
owner_of (registers s) = give_registers (list_in register_part s)
owner_of (value n v) = set_value (record { bytes = n }) v
owner_of (columns s) = set_columns (list_in name_part s)
owner_of (period d) = set_period d
owner_of (clock t) = tick (record { bytes = t })
owner_of (p5 h) = set_p5 (eqb h 1)
owner_of powered = power_up
