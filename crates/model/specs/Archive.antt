-- What the keeper of the archive asked for (demands 1 and 2, and document 01, "What the contracts owe the archive"): rows
-- are added and kept, sound meters stay sound, and each call has its own numbers. Proved in proofs/KeptRows,
-- RecordNumber, StaySound and AllowedNumbers.
use Rattle.std.specs.Prelude.{◌≡◌, Bool, true, false, ◌&&◌, List, [], ◌∷◌, map, ℕ, ◌+◌, ◌-◌, ◌%◌, ◌<◌, length, take, eqb}
use Rattle.model.specs.declared.Name.{Name}
use Rattle.model.specs.declared.Clock.{Clock}
use Rattle.model.specs.Limits.{max_rows}
use Rattle.model.specs.Names.{same_name, bearing}
use Rattle.model.specs.Clocks.{valid_clock}
use Rattle.model.specs.Periods.{listed, capture_due}
use Rattle.model.specs.State.{Line, Entry, Body, Model, new_meter}
use Rattle.model.specs.Soundness.{line_sound, sound}
use Rattle.model.specs.Objects.{profile_named, record_number_named, Service, get, action, Inquiry, ask, go_on}
use Rattle.model.specs.Calls.{Lent, Call, frame, owner, OwnerCall, give_registers, set_value, set_columns, set_period, tick, set_p5, power_up, Outcome, refused, Decision, answer, serve, Protocol, step}

-- Rows.

abbrev pub rows_of : Model → List Entry
rows_of m = m.body.store.rows

-- the row that is due: "the record number grows by one (65535 to 0) and a row with that number is taken", of this clock, with
-- the present value of each column's register
abbrev pub due_row : Clock → Body → Entry
due_row t b =
    record { number = (b.number + 1) % 65536; clock = t; cells = map (λ c. (bearing c b.store.registers).value) b.store.columns }

-- One row more: it stands in front; the older ones follow unchanged, and only where fifteen were kept the oldest is pushed
-- out. Nothing is asked of the clock: it may equal that of a kept row.
pub record OneMore (t : Clock) (before after : Body) : Type 0 where
  pub rows : after.store.rows ≡ due_row t before ∷ take (max_rows - 1) before.store.rows
  pub kept : length before.store.rows < max_rows → after.store.rows ≡ due_row t before ∷ before.store.rows
  pub number : after.number ≡ (before.number + 1) % 65536

-- "each due capture adds one row and alters none, equal times included; only a sixteenth row pushes out the oldest"
abbrev pub DueTicks : Protocol → Type 0
DueTicks p =
    (m : Model) (t : Clock)
    → sound m ≡ true
    → valid_clock t ≡ true
    → capture_due m.body.period t ≡ true
    → OneMore t m.body (step p (owner (tick t)) m).next.body

-- The calls that may empty the rows: give registers, set columns, power-up, and an ACTION on the profile, "0.0.21.0.6.255 ..
-- method 1 empties the rows".

abbrev pub on_profile : Name → Service → Bool
on_profile n (get a s) = false
on_profile n (action k v) = same_name profile_named n && eqb k 1

abbrev pub inquiry_empties : Inquiry → Bool
inquiry_empties (ask q) = on_profile q.name q.service
inquiry_empties (go_on i n) = false

abbrev pub empties : Decision → Bool
empties (answer s) = false
empties (serve q w l) = inquiry_empties q

abbrev pub owner_empties : OwnerCall → Bool
owner_empties (give_registers rs) = true
owner_empties (set_value n v) = false
owner_empties (set_columns cs) = true
owner_empties (set_period d) = false
owner_empties (tick t) = false
owner_empties (set_p5 f) = false
owner_empties power_up = true

abbrev pub may_empty : Protocol → Call → Line → Bool
may_empty p (frame a) l = empties (p.decide l a)
may_empty p (owner o) l = owner_empties o

-- what a call leaves of the rows: all of them; or, at a due tick, one more; or none, where an accepted call may empty them
pub data RowsAfter (p : Protocol) (c : Call) (m : Model) (o : Outcome) : Type 0 where
  stay : rows_of o.next ≡ rows_of m → RowsAfter p c m o
  grow : (t : Clock) → c ≡ owner (tick t) → capture_due m.body.period t ≡ true → OneMore t m.body o.next.body → RowsAfter p c m o
  empty : may_empty p c m.line ≡ true → o.refusal ≡ 0 → rows_of o.next ≡ [] → RowsAfter p c m o

abbrev pub RowsStay : Protocol → Type 0
RowsStay p = (c : Call) (m : Model) → RowsAfter p c m (step p c m)

-- The record number: it stays; or it grows by one, at a due tick; or it is set to 0, by power-up or an accepted ACTION on its
-- object, "0.0.96.15.3.255 .. method 1 sets 0".

abbrev pub on_record_number : Name → Service → Bool
on_record_number n (get a s) = false
on_record_number n (action k v) = same_name record_number_named n && eqb k 1

abbrev pub inquiry_renumbers : Inquiry → Bool
inquiry_renumbers (ask q) = on_record_number q.name q.service
inquiry_renumbers (go_on i n) = false

abbrev pub renumbers : Decision → Bool
renumbers (answer s) = false
renumbers (serve q w l) = inquiry_renumbers q

abbrev pub owner_resets : OwnerCall → Bool
owner_resets (give_registers rs) = false
owner_resets (set_value n v) = false
owner_resets (set_columns cs) = false
owner_resets (set_period d) = false
owner_resets (tick t) = false
owner_resets (set_p5 f) = false
owner_resets power_up = true

abbrev pub may_reset : Protocol → Call → Line → Bool
may_reset p (frame a) l = renumbers (p.decide l a)
may_reset p (owner o) l = owner_resets o

pub data NumberAfter (p : Protocol) (c : Call) (m : Model) (o : Outcome) : Type 0 where
  same : o.next.body.number ≡ m.body.number → NumberAfter p c m o
  next : (t : Clock) → c ≡ owner (tick t) → capture_due m.body.period t ≡ true → o.next.body.number ≡ (m.body.number + 1) % 65536 → NumberAfter p c m o
  reset : may_reset p c m.line ≡ true → o.refusal ≡ 0 → o.next.body.number ≡ 0 → NumberAfter p c m o

-- no "invented record number"
abbrev pub NumberStays : Protocol → Type 0
NumberStays p = (c : Call) (m : Model) → NumberAfter p c m (step p c m)

-- Soundness.

abbrev pub NewMeterSound : Type 0
NewMeterSound = (d t v h : List ℕ) → sound (new_meter d t v h) ≡ true

-- the line after a frame
abbrev pub line_after : Decision → Line
line_after (answer s) = s.line
line_after (serve q w l) = l

-- what is asked of a protocol: a sound line stays sound
abbrev pub KeepsLines : Protocol → Type 0
KeepsLines p = (l : Line) (a : Lent) → line_sound l ≡ true → line_sound (line_after (p.decide l a)) ≡ true

abbrev pub StaysSound : Protocol → Type 0
StaysSound p = (c : Call) (m : Model) → sound m ≡ true → sound (step p c m).next ≡ true

-- Numbers.

-- what is asked of a protocol: its answers have the numbers that a frame has once refusals 1 to 3 are passed
abbrev pub frame_numbers : List ℕ
frame_numbers = 0 ∷ 4 ∷ 5 ∷ 6 ∷ 7 ∷ 8 ∷ 9 ∷ 10 ∷ 11 ∷ 12 ∷ 13 ∷ []

abbrev pub said_number : Decision → ℕ
said_number (answer s) = s.refusal
said_number (serve q w l) = 0

abbrev pub KnownNumbers : Protocol → Type 0
KnownNumbers p = (l : Line) (a : Lent) → listed (said_number (p.decide l a)) frame_numbers ≡ true

-- the numbers that document 01 allows a call

abbrev pub own_numbers : OwnerCall → List ℕ
own_numbers (give_registers rs) = 16 ∷ []
own_numbers (set_value n v) = 17 ∷ []
own_numbers (set_columns cs) = 18 ∷ []
own_numbers (set_period d) = 15 ∷ []
own_numbers (tick t) = 14 ∷ []
own_numbers (set_p5 f) = []
own_numbers power_up = []

abbrev pub numbers : Call → List ℕ
numbers (frame a) = 1 ∷ 2 ∷ 3 ∷ frame_numbers
numbers (owner o) = 0 ∷ 3 ∷ own_numbers o

abbrev pub NumbersAllowed : Protocol → Type 0
NumbersAllowed p = (c : Call) (m : Model) → listed (step p c m).refusal (numbers c) ≡ true

-- the refusals after which nothing goes out and the meter is unchanged, for a protocol with known numbers
abbrev pub keeping_numbers : List ℕ
keeping_numbers = 1 ∷ 2 ∷ 3 ∷ 14 ∷ 15 ∷ 16 ∷ 17 ∷ 18 ∷ []

abbrev pub RefusalsKeep : Protocol → Type 0
RefusalsKeep p = (c : Call) (m : Model) → listed (step p c m).refusal keeping_numbers ≡ true → step p c m ≡ refused (step p c m).refusal m
