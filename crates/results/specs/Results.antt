-- What a request comes to, as the code answers it: the data of each case, and the model's Result.
use Rattle.std.specs.Prelude.{◌≡◌, List, [], ℕ, ◌≤◌, length, Result, Ok, Err}
use Rattle.model.specs.declared.Denial.{Denial}
use Rattle.model.specs.declared.Name.{Name}
use Rattle.model.specs.Codes.{code_of}
use Rattle.model.specs.Limits.{longest_sent, data_room}
use Rattle.model.specs.State.{Transfer, Body}
use Rattle.model.specs.Objects.{Result as ModelResult, granted, begun, denied, name_data, simple_data, rows_data, unsigned16, unsigned32, scaler_unit, attribute_data}
use Rattle.objects.specs.declared.Shown.{Shown}
use Rattle.results.specs.declared.Data.{Data}
use Rattle.results.specs.declared.Data.TheVariants.{Name as Named, Plain, Rows, RecordNumber, Value, ScalerUnit, Nothing}
use Rattle.results.specs.declared.Outcome.{Outcome}
use Rattle.results.specs.declared.Outcome.TheVariants.{Granted, Begun}
use Rattle.objects.specs.Meanings.{plain_as, shown_as}
use Rattle.picks.specs.Marks.{marked}

-- the bytes of each case, from the name asked for and the body
abbrev pub data_as : Name → Body → Data → List ℕ
data_as n b Named = name_data n
data_as n b (Plain x) = simple_data (plain_as x) b
data_as n b (Rows which) = rows_data (marked which b.store.rows)
data_as n b RecordNumber = unsigned16 b.number
data_as n b (Value value) = unsigned32 value
data_as n b (ScalerUnit scaler unit) = scaler_unit scaler unit
data_as n b Nothing = []

-- the data of an attribute of an object of any name, in any body, where these rows were picked
abbrev pub Shows : Shown → (a which : ℕ) → Data → Type 0
Shows x a which d = (n : Name) (b : Body) → data_as n b d ≡ attribute_data (shown_as n x) n a (marked which b.store.rows) b

-- the transfer is the one that begins, where one does
abbrev pub outcome_as : Transfer → Name → Body → Result Outcome Denial → ModelResult
outcome_as t n b (Ok (Granted d)) = granted (data_as n b d)
outcome_as t n b (Ok (Begun which)) = begun t (rows_data (marked which b.store.rows))
outcome_as t n b (Err e) = denied (code_of e)

-- what a method comes to
abbrev pub invoked_as : Result (Unit {0}) Denial → ModelResult
invoked_as (Ok x) = granted []
invoked_as (Err e) = denied (code_of e)

-- what is granted can be written: it takes no more than its room
abbrev pub Writable : Name → Body → Result Outcome Denial → Type 0
Writable n b (Ok (Granted d)) = length (data_as n b d) ≤ data_room longest_sent
Writable n b (Ok (Begun which)) = Unit {0}
Writable n b (Err e) = Unit {0}

-- what a request comes to; of the transfer that it starts the code's outcome says nothing
pub record Comes (n : Name) (b : Body) (m : ModelResult) (r : Result Outcome Denial) : Type 0 where
  pub starts : Transfer
  pub means : outcome_as starts n b r ≡ m
  pub writable : Writable n b r
