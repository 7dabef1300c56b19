-- What the body of the code holds, as the model's Body: the slots of an array above its count, and what a transfer does not use,
-- are no part of it.
use Rattle.std.specs.Prelude.{Bool, ◌&&◌, List, [], ℕ, ◌≤◌, ◌<◌, length, eqb, leb}
use Rattle.model.specs.Limits.{max_rows}
use Rattle.model.specs.Names.{every}
use Rattle.model.specs.Clocks.{valid_clock}
use Rattle.model.specs.Periods.{permitted_period}
use Rattle.model.specs.State.{Body, new_meter}
use Rattle.model.specs.Soundness.{accepted_registers, accepted_columns, rows_allow}
use Rattle.store.specs.Lists.{registers_of, columns_of, entries_of}
use Rattle.picks.specs.Transfers.{transfer_of}
use Rattle.body.specs.declared.BodyState.{BodyState}

unfoldable pub body_of : BodyState → Body
body_of b =
    record {
      device = b.device;
      clock = b.clock;
      period = b.period;
      number = b.number;
      transfer = transfer_of b.transfer;
      store = record { registers = registers_of b.registers; columns = columns_of b.columns; rows = entries_of b.rows };
    }

-- the body of a new meter
abbrev pub new_body : (device : List ℕ) → Body
new_body d = (new_meter d [] [] []).body

-- The tests of soundness on the body; of a transfer, what they ask of the rows.

-- the tests on the rows, beside n columns
unfoldable pub rows_sound : ℕ → Body → Bool
rows_sound n b =
    every (λ i r. valid_clock r.clock) 0 b.store.rows
    && (leb (length b.store.rows) max_rows && every (λ i r. eqb (length r.cells) n) 0 b.store.rows)

unfoldable pub body_sound : Body → Bool
body_sound b =
    accepted_registers b.store.registers
    && (accepted_columns b.store.registers b.store.columns
    && (permitted_period b.period
    && (valid_clock b.clock && (rows_sound (length b.store.columns) b && rows_allow b.store b.transfer))))

-- the tests on a body of the code, but for the transfer's
unfoldable pub parts_sound : BodyState → Bool
parts_sound b =
    accepted_registers (registers_of b.registers)
    && (accepted_columns (registers_of b.registers) (columns_of b.columns)
    && (permitted_period b.period && (valid_clock b.clock && rows_sound b.columns.count (body_of b))))

-- what a sound body lets its functions count on: counts are within their arrays, and the period is no zero
pub record Fit (b : BodyState) : Type 0 where
  pub registers : b.registers.count ≤ 16
  pub columns : b.columns.count ≤ 16
  pub rows : b.rows.count ≤ 15
  pub period : 0 < b.period
