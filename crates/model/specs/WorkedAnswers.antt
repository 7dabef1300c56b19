-- Worked answers of a body, byte by byte: each kind of data that a meter sends, and the answer to a method that V names, which
-- no frame reaches, since V is never let ask for one. The definitions of specs/Objects give them all (`AnswersHold`), which is
-- proved in proofs/WorkedAnswers, by computation. Kinds are those of document 01: 01 array, 02 structure, 06 and 12 numbers of 32
-- and 16 bits, 09 octet string, 0A visible string, 0F integer, 16 enumeration. Behind them worked ranges of rows (document 02, Q-1;
-- `RangesHold`). No other definition cites these tables.
use Rattle.std.specs.Prelude.{◌≡◌, Bool, true, false, ◌&&◌, List, [], ◌∷◌, ◌++◌, map, ℕ, eqb}
use Rattle.wire.specs.Reading.{same_bytes}
use Rattle.model.specs.declared.Name.{Name}
use Rattle.model.specs.declared.Clock.{Clock}
use Rattle.model.specs.declared.Client.{Client}
use Rattle.model.specs.declared.Client.TheVariants.{Verification, Ciphering}
use Rattle.model.specs.declared.CipherClient.TheVariants.{Han}
use Rattle.model.specs.declared.Register.{Register}
use Rattle.model.specs.Names.{every}
use Rattle.model.specs.State.{Entry, idle, Body}
use Rattle.model.specs.Selecting.{all, selected, range_descriptor}
use Rattle.model.specs.Objects.{named, get, action, absent, Service, ask, turned, Picked, these, wrong, selected_rows}

-- 18 minutes and 7 seconds past one, on the first day of 2017
abbrev pub worked_clock : Clock
worked_clock =
    record { bytes = 0x07 ∷ 0xE1 ∷ 0x01 ∷ 0x01 ∷ 0xFF ∷ 0x01 ∷ 0x12 ∷ 0x07 ∷ 0xFF ∷ 0x80 ∷ 0x00 ∷ 0x00 ∷ [] }

-- 1.0.1.8.0.255, the one register and column: 16,909,060, scaler -1, in watt hours
abbrev pub worked_register : Register
worked_register = record { name = named 1 0 1 8 0 255; readable = true; scaler = 0xFF; unit = 0x1E; value = 0x01020304 }

-- a meter named "TPC1070201000001" with that register, the record number 4996 and a row of it
abbrev pub worked_body : Body
worked_body =
    record {
      device =
          0x54 ∷ 0x50 ∷ 0x43 ∷ 0x31 ∷ 0x30 ∷ 0x37 ∷ 0x30 ∷ 0x32 ∷ 0x30 ∷ 0x31 ∷ 0x30 ∷ 0x30 ∷ 0x30 ∷ 0x30 ∷ 0x30 ∷ 0x31 ∷ [];
      clock = worked_clock;
      period = 900;
      number = 4996;
      transfer = idle;
      store =
          record {
            registers = worked_register ∷ [];
            columns = named 1 0 1 8 0 255 ∷ [];
            rows = record { number = 4996; clock = worked_clock; cells = 0x01020304 ∷ [] } ∷ [];
          };
    }

-- what a request with the invoke byte C1 comes to: its refusal, or 0, and the bytes of its answer
abbrev pub answers : Client → ℕ → Name → Service → (refusal : ℕ) → List ℕ → Bool
answers c k n s refusal bytes =
    let t = turned (ask (record { client = c; invoke = 0xC1; selective = true; blocks = true; class = k; name = n; service = s })) worked_body in
    eqb t.refusal refusal && same_bytes t.bytes bytes

-- H reads an attribute whole, and the data are these
abbrev pub reads : ℕ → Name → ℕ → List ℕ → Bool
reads k n a d = answers (Ciphering Han) k n (get a all) 0 (0xC4 ∷ 0x01 ∷ 0xC1 ∷ 0x00 ∷ d)

unfoldable pub worked_answers : List Bool
worked_answers =
    -- an object's name; the clock, its time and its date; the device name
    reads 8 (named 0 0 1 0 0 255) 1 (0x09 ∷ 0x06 ∷ 0x00 ∷ 0x00 ∷ 0x01 ∷ 0x00 ∷ 0x00 ∷ 0xFF ∷ [])
    ∷ reads 8 (named 0 0 1 0 0 255) 2 (0x09 ∷ 0x0C ∷ worked_clock.bytes)
    ∷ reads 1 (named 1 0 0 9 1 255) 2 (0x09 ∷ 0x04 ∷ 0x01 ∷ 0x12 ∷ 0x07 ∷ 0xFF ∷ [])
    ∷ reads 1 (named 1 0 0 9 2 255) 2 (0x09 ∷ 0x05 ∷ 0x07 ∷ 0xE1 ∷ 0x01 ∷ 0x01 ∷ 0xFF ∷ [])
    ∷ reads 1 (named 0 0 42 0 0 255) 2 (0x0A ∷ 0x10 ∷ worked_body.device)
    -- the record number, and its scaler and unit
    ∷ reads 3 (named 0 0 96 15 3 255) 2 (0x12 ∷ 0x13 ∷ 0x84 ∷ [])
    ∷ reads 3 (named 0 0 96 15 3 255) 3 (0x02 ∷ 0x02 ∷ 0x0F ∷ 0x00 ∷ 0x16 ∷ 0xFF ∷ [])
    -- a register's value, and its scaler and unit
    ∷ reads 3 (named 1 0 1 8 0 255) 2 (0x06 ∷ 0x01 ∷ 0x02 ∷ 0x03 ∷ 0x04 ∷ [])
    ∷ reads 3 (named 1 0 1 8 0 255) 3 (0x02 ∷ 0x02 ∷ 0x0F ∷ 0xFF ∷ 0x16 ∷ 0x1E ∷ [])
    -- the rows
    ∷ reads 7 (named 0 0 21 0 6 255) 2
    (0x01 ∷ 0x01 ∷ 0x02 ∷ 0x03 ∷ 0x12 ∷ 0x13 ∷ 0x84 ∷ 0x09 ∷ 0x0C ∷ worked_clock.bytes ++ 0x06 ∷ 0x01 ∷ 0x02 ∷ 0x03 ∷ 0x04 ∷ [])
    -- V's method 1 of the device name is not served
    ∷ answers Verification 1 (named 0 0 42 0 0 255) (action 1 absent) 13 (0xC7 ∷ 0x01 ∷ 0xC1 ∷ 0x03 ∷ 0x00 ∷ [])
    ∷ []

abbrev pub AnswersHold : Type 0
AnswersHold = every (λ i holds. holds) 0 worked_answers ≡ true

-- Ranges.

-- an hour and minute of a day of a month of 2016
abbrev pub clock_on : (month day hour minute : ℕ) → Clock
clock_on m d h n = record { bytes = 0x07 ∷ 0xE0 ∷ m ∷ d ∷ 0xFF ∷ h ∷ n ∷ 0x00 ∷ 0xFF ∷ 0x80 ∷ 0x00 ∷ 0x00 ∷ [] }

abbrev pub row_at : ℕ → Clock → Entry
row_at n t = record { number = n; clock = t; cells = [] }

-- the rows picked are those of these record numbers, in this order; or none are, and this is the code
abbrev pub picks : List ℕ → Picked → Bool
picks ns (these rs) = same_bytes (map (λ r. r.number) rs) ns
picks ns (wrong c) = false

abbrev pub refuses : ℕ → Picked → Bool
refuses c (these rs) = false
refuses c (wrong d) = eqb c d

-- rows of each quarter of an hour, newest first, as source document 000 has them in its example of a range
abbrev pub quarters : List Entry
quarters =
    row_at 7 (clock_on 1 1 11 15)
    ∷ row_at 6 (clock_on 1 1 11 0)
    ∷ row_at 5 (clock_on 1 1 10 45)
    ∷ row_at 4 (clock_on 1 1 10 30)
    ∷ row_at 3 (clock_on 1 1 10 15)
    ∷ row_at 2 (clock_on 1 1 10 0)
    ∷ row_at 1 (clock_on 1 1 9 45)
    ∷ []

-- rows of a night in which the clock was set back from three to two
abbrev pub night : List Entry
night =
    row_at 9 (clock_on 10 30 3 0)
    ∷ row_at 8 (clock_on 10 30 2 45)
    ∷ row_at 7 (clock_on 10 30 2 30)
    ∷ row_at 6 (clock_on 10 30 2 15)
    ∷ row_at 5 (clock_on 10 30 2 0)
    ∷ row_at 4 (clock_on 10 30 2 45)
    ∷ row_at 3 (clock_on 10 30 2 30)
    ∷ row_at 2 (clock_on 10 30 2 15)
    ∷ row_at 1 (clock_on 10 30 2 0)
    ∷ []

-- rows at midnight around the 29th of February, and at the end of the year
abbrev pub days : List Entry
days =
    row_at 5 (record { bytes = 0x07 ∷ 0xE1 ∷ 1 ∷ 1 ∷ 0xFF ∷ 0 ∷ 0 ∷ 0 ∷ 0xFF ∷ 0x80 ∷ 0x00 ∷ 0x00 ∷ [] })
    ∷ row_at 4 (clock_on 12 31 0 0)
    ∷ row_at 3 (clock_on 3 1 0 0)
    ∷ row_at 2 (clock_on 2 29 0 0)
    ∷ row_at 1 (clock_on 2 28 0 0)
    ∷ []

abbrev pub by_range : (from to : Clock) → List Entry → Picked
by_range from to = selected_rows true (selected 1 (range_descriptor from to))

-- a range descriptor, but for the attribute of its restricting object
abbrev pub ten_to_eleven : (attribute : ℕ) → List ℕ
ten_to_eleven a =
    (0x02 ∷ 0x04 ∷ [])
    ++ (0x02 ∷ 0x04 ∷ 0x12 ∷ 0x00 ∷ 0x08 ∷ 0x09 ∷ 0x06 ∷ 0x00 ∷ 0x00 ∷ 0x01 ∷ 0x00 ∷ 0x00 ∷ 0xFF ∷ 0x0F ∷ a ∷ 0x12 ∷ 0x00 ∷ 0x00 ∷ [])
    ++ (0x09 ∷ 0x0C ∷ 0x07 ∷ 0xE0 ∷ 0x01 ∷ 0x01 ∷ 0xFF ∷ 0x0A ∷ 0x00 ∷ 0x00 ∷ 0xFF ∷ 0x80 ∷ 0x00 ∷ 0x00 ∷ [])
    ++ (0x09 ∷ 0x0C ∷ 0x07 ∷ 0xE0 ∷ 0x01 ∷ 0x01 ∷ 0xFF ∷ 0x0B ∷ 0x00 ∷ 0x00 ∷ 0xFF ∷ 0x80 ∷ 0x00 ∷ 0x00 ∷ [])
    ++ (0x01 ∷ 0x00 ∷ [])

unfoldable pub worked_ranges : List Bool
worked_ranges =
    -- from is not in the range, and to is
    picks (6 ∷ 5 ∷ 4 ∷ 3 ∷ []) (by_range (clock_on 1 1 10 0) (clock_on 1 1 11 0) quarters)
    ∷ picks (5 ∷ []) (by_range (clock_on 1 1 10 30) (clock_on 1 1 10 45) quarters)
    ∷ picks [] (by_range (clock_on 1 1 10 46) (clock_on 1 1 10 59) quarters)
    -- no row is skipped where the clock went back
    ∷ picks (9 ∷ 8 ∷ 7 ∷ 6 ∷ 4 ∷ 3 ∷ 2 ∷ []) (by_range (clock_on 10 30 2 0) (clock_on 10 30 3 0) night)
    ∷ picks (7 ∷ 3 ∷ []) (by_range (clock_on 10 30 2 15) (clock_on 10 30 2 30) night)
    -- days, months and years
    ∷ picks (3 ∷ 2 ∷ []) (by_range (clock_on 2 28 0 0) (clock_on 3 1 0 0) days)
    ∷ picks (5 ∷ 4 ∷ []) (by_range (clock_on 3 1 0 0) (record { bytes = 0x07 ∷ 0xE1 ∷ 1 ∷ 1 ∷ 0xFF ∷ 0 ∷ 0 ∷ 0 ∷ 0xFF ∷ 0x80 ∷ 0x00 ∷ 0x00 ∷ [] }) days)
    -- from not before to; a clock not valid; another selector
    ∷ refuses 13 (by_range (clock_on 1 1 10 0) (clock_on 1 1 10 0) quarters)
    ∷ refuses 13 (by_range (clock_on 1 1 11 0) (clock_on 1 1 10 0) quarters)
    ∷ refuses 13 (by_range (clock_on 2 30 0 0) (clock_on 3 1 0 0) days)
    ∷ refuses 13 (by_range (clock_on 2 28 0 0) (clock_on 2 28 24 0) days)
    ∷ refuses 12 (selected_rows true (selected 2 (range_descriptor (clock_on 1 1 10 0) (clock_on 1 1 11 0))) quarters)
    ∷ refuses 12 (selected_rows true (selected 3 (range_descriptor (clock_on 1 1 10 0) (clock_on 1 1 11 0))) quarters)
    ∷ refuses 12 (selected_rows false (selected 1 (range_descriptor (clock_on 1 1 10 0) (clock_on 1 1 11 0))) quarters)
    -- the descriptor, byte by byte, from ten to eleven; and the same with attribute 3 of the clock
    ∷ picks (6 ∷ 5 ∷ 4 ∷ 3 ∷ []) (selected_rows true (selected 1 (ten_to_eleven 0x02)) quarters)
    ∷ refuses 12 (selected_rows true (selected 1 (ten_to_eleven 0x03)) quarters)
    ∷ []

abbrev pub RangesHold : Type 0
RangesHold = every (λ i holds. holds) 0 worked_ranges ≡ true
