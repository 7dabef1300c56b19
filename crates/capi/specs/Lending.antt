-- Calls of the static library as they are lent: one constructor for each function that is lent a state buffer.
use Rattle.std.specs.Prelude.{List, ℕ}
use Rattle.model.specs.Calls.{Lent, Call, frame, owner}
use Rattle.owner_calls.specs.Lending.{LentOwner, owner_of}

-- on the meter in the buffer
pub data LentOn : Type 0 where
  receive : Lent → LentOn
  own : LentOwner → LentOn

-- the call on a meter that is made where its arguments are taken
abbrev pub call_of : LentOn → Call
call_of (receive a) = frame a
call_of (own c) = owner (owner_of c)

-- these, and the making of a new meter
pub data LentCall : Type 0 where
  renew : (device title verification han : List ℕ) → LentCall
  call : LentOn → LentCall
