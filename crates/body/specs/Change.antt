-- What a request makes of the body of the code.
use Rattle.std.specs.Prelude.{◌≡◌, [], ℕ}
use Rattle.model.specs.State.{Body}
use Rattle.store.specs.Held.{Rows}
use Rattle.store.specs.Canonical.{rows_with}
use Rattle.picks.specs.declared.Transfer.{Transfer}
use Rattle.picks.specs.Canonical.{broken_transfer}
use Rattle.body.specs.declared.BodyState.{BodyState}
use Rattle.body.specs.declared.Change.{Change}
use Rattle.body.specs.declared.Change.TheVariants.{Nothing, Transfer as ItsTransfer, Rows as ItsRows, RecordNumber}
use Rattle.body.specs.View.{body_of}

-- nothing is changed; this transfer is left

abbrev pub unchanging : Change
unchanging = Nothing

abbrev pub leaving : Transfer → Change
leaving t = ItsTransfer t

-- the record number, the rows and the transfer after a change

abbrev pub number_after : Change → ℕ → ℕ
number_after Nothing n = n
number_after (ItsTransfer t) n = n
number_after ItsRows n = n
number_after RecordNumber n = 0

abbrev pub rows_after : Change → Rows → Rows
rows_after Nothing r = r
rows_after (ItsTransfer t) r = r
rows_after ItsRows r = rows_with []
rows_after RecordNumber r = r

-- "profile reset .. ends the transfer"
abbrev pub left_after : Change → (held : Transfer) → Transfer
left_after Nothing t = t
left_after (ItsTransfer l) t = l
left_after ItsRows t = broken_transfer t
left_after RecordNumber t = t

-- a body with another record number, other rows and another transfer
abbrev pub holding : ℕ → Rows → Transfer → BodyState → BodyState
holding n r t b =
    record {
      device = b.device;
      clock = b.clock;
      period = b.period;
      number = n;
      registers = b.registers;
      columns = b.columns;
      rows = r;
      transfer = t;
    }

-- the body after a change
abbrev pub changed_by : Change → BodyState → BodyState
changed_by c b = holding (number_after c b.number) (rows_after c b.rows) (left_after c b.transfer) b

-- a change that makes this of the model's body
abbrev pub Makes : (Body → Body) → Change → Type 0
Makes f c = (b : BodyState) → body_of (changed_by c b) ≡ f (body_of b)
