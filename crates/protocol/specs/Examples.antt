-- The fourteen marked examples of document 01, as one table: its numbers are 1 to 14, in order (`ExamplesNumbered`), and all of
-- them hold (`ExamplesHold`). Both are proved in proofs/Examples, by computation.
use Rattle.std.specs.Prelude.{◌≡◌, Bool, true, not, List, [], ◌∷◌, ◌++◌, map, ℕ, zero, suc, eqb, replicate}
use Rattle.wire.specs.Numbers.{high_first}
use Rattle.wire.specs.Reading.{same_bytes}
use Rattle.fcs.specs.Check.{check_of}
use Rattle.model.specs.Names.{every}
use Rattle.model.specs.Limits.{longest_sent, reply_room, max_rows}
use Rattle.model.specs.State.{Entry, new_clock, new_meter}
use Rattle.model.specs.Selecting.{selected}
use Rattle.model.specs.Objects.{Picked, selected_rows}
use Rattle.model.specs.WorkedAnswers.{picks, refuses}
use Rattle.model.specs.Calls.{frame, Outcome, next_number, step}
use Rattle.counters.specs.Window.{in_window}
use Rattle.protocol.specs.Decide.{p2}

-- a frame on a new meter, with enough room and keys and a challenge of the right lengths
abbrev pub on_new_meter : List ℕ → Outcome
on_new_meter f =
    step p2
    (frame (record { room = reply_room longest_sent; guk = replicate 16 0; ak = replicate 16 0; challenge = replicate 8 0; received = f }))
    (new_meter (replicate 16 0) (replicate 8 0) (replicate 8 0) (replicate 8 0))

-- n numbers from i on
abbrev pub numbered_from : ℕ → ℕ → List ℕ
numbered_from zero i = []
numbered_from (suc n) i = i ∷ numbered_from n (suc i)

abbrev pub fifteen_rows : List Entry
fifteen_rows = map (λ n. record { number = n; clock = new_clock; cells = [] }) (numbered_from max_rows 1)

-- what an entry descriptor of these numbers, all columns meant, comes to: by selector 2 since document 02, Q-1
abbrev pub selected_entries : (from to : ℕ) → Picked
selected_entries from to =
    selected_rows true
    (selected 2 (0x02 ∷ 0x04 ∷ 0x06 ∷ high_first 4 from ++ (0x06 ∷ high_first 4 to ++ (0x12 ∷ 0x00 ∷ 0x01 ∷ 0x12 ∷ 0x00 ∷ 0x00 ∷ []))))
    fifteen_rows

abbrev pub link_up_frame : List ℕ
link_up_frame = 0x7E ∷ 0xA0 ∷ 0x07 ∷ 0x03 ∷ 0x21 ∷ 0x93 ∷ 0x0F ∷ 0x01 ∷ 0x7E ∷ []

abbrev pub link_down_frame : List ℕ
link_down_frame = 0x7E ∷ 0xA0 ∷ 0x07 ∷ 0x03 ∷ 0x21 ∷ 0x53 ∷ 0x03 ∷ 0xC7 ∷ 0x7E ∷ []

pub record Example : Type 0 where
  pub number : ℕ
  pub holds : Bool

abbrev pub example : ℕ → Bool → Example
example n b = record { number = n; holds = b }

unfoldable pub examples : List Example
examples =
    example 1 (eqb (check_of (0x31 ∷ 0x32 ∷ 0x33 ∷ 0x34 ∷ 0x35 ∷ 0x36 ∷ 0x37 ∷ 0x38 ∷ 0x39 ∷ [])) 0x906E)
    ∷ example 2 (eqb (on_new_meter link_up_frame).refusal 0)
    ∷ example 3 (same_bytes (on_new_meter link_up_frame).sent (0x7E ∷ 0xA0 ∷ 0x07 ∷ 0x21 ∷ 0x03 ∷ 0x73 ∷ 0x01 ∷ 0x40 ∷ 0x7E ∷ []))
    ∷ example 4 (eqb (on_new_meter link_down_frame).refusal 10)
    ∷ example 5 (same_bytes (on_new_meter link_down_frame).sent (0x7E ∷ 0xA0 ∷ 0x07 ∷ 0x21 ∷ 0x03 ∷ 0x1F ∷ 0x6B ∷ 0xE9 ∷ 0x7E ∷ []))
    ∷ example 6 (in_window 200 201)
    ∷ example 7 (in_window 200 380)
    ∷ example 8 (not (in_window 200 200))
    ∷ example 9 (not (in_window 200 381))
    ∷ example 10 (picks (numbered_from 15 1) (selected_entries 1 0))
    ∷ example 11 (picks (numbered_from 14 2) (selected_entries 2 16))
    ∷ example 12 (refuses 13 (selected_entries 0 10))
    ∷ example 13 (refuses 13 (selected_entries 16 0))
    ∷ example 14 (eqb (next_number 65535) 0)
    ∷ []

abbrev pub ExamplesNumbered : Type 0
ExamplesNumbered = map (λ (e : Example). e.number) examples ≡ numbered_from 14 1

abbrev pub ExamplesHold : Type 0
ExamplesHold = every (λ i e. e.holds) 0 examples ≡ true
