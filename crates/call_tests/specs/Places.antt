-- "The failing field's first byte counted from 0 (of two the first; a short frame: 0; information absent, short or unwanted: 8)"
-- (document 02, Q-2): the fields of a frame, where each begins, and of each test the fields that it is about, with what makes them fail it.
use Rattle.std.specs.Prelude.{◌≡◌, Bool, not, cond, ◌||◌, List, [], ◌∷◌, ℕ, ◌-◌, ◌%◌, eqb, length, take, drop, Option, Some, None, is_some, Err}
use Rattle.wire.specs.Numbers.{number_low, number_high}
use Rattle.wire.specs.Reading.{part}
use Rattle.model.specs.State.{Model}
use Rattle.model.specs.Calls.{Lent}
use Rattle.hdlc.specs.Layout.{flag, byte, format_of, head_of, hcs_of, information_of, fcs_of}
use Rattle.hdlc.specs.Tests.{fails, meter_side}
use Rattle.hdlc.specs.declared.FrameTest.{FrameTest}
use Rattle.hdlc.specs.declared.FrameTest.TheVariants.{ShortFrame, FlagMissing, FrameType, LengthMismatch, LengthEightOrNine, WrongFcs, WrongHcs, EvenAddress, FrmrReceived, OverLength, SegmentBit, PfClear, WrongDestination, WrongSource, UnknownControl, LinkDownWithInformation, ShortInformation, WrongLlc}
use Rattle.call_tests.specs.declared.CallTest.TheVariants.{Frame as OfFrame}
use Rattle.call_tests.specs.Tests.{found}
use Rattle.call_tests.specs.Lines.{number_found, place_found}

-- the fields in their order, and a frame too short to have any
pub data Field : Type 0 where
  all_of_it opening_flag format destination source control hcs information fcs closing_flag : Field

abbrev pub start_of : Field → List ℕ → ℕ
start_of all_of_it f = 0
start_of opening_flag f = 0
start_of format f = 1
start_of destination f = 3
start_of source f = 4
start_of control f = 5
start_of hcs f = 6
start_of information f = 8
start_of fcs f = length f - 3
start_of closing_flag f = length f - 1

-- they are where the frame's readers find them
pub record FieldsStand (f : List ℕ) : Type 0 where
  pub format : format_of f ≡ number_high (take 2 (drop (start_of format f) f))
  pub destination : (head_of f).destination ≡ byte f (start_of destination f)
  pub source : (head_of f).source ≡ byte f (start_of source f)
  pub control : (head_of f).control ≡ byte f (start_of control f)
  pub hcs : hcs_of f ≡ number_low (take 2 (drop (start_of hcs f) f))
  pub information : information_of f ≡ part (start_of information f) (start_of fcs f) f
  pub fcs : fcs_of f ≡ number_low (take 2 (drop (start_of fcs f) f))

-- a field that a test is about, and whether it fails it
pub record Aspect : Type 0 where
  pub field : Field
  pub wrong : Bool

abbrev pub aspect : Field → Bool → Aspect
aspect x w = record { field = x; wrong = w }

-- the one field of a test, which fails it where the frame does
abbrev pub alone : Field → FrameTest → List ℕ → List Aspect
alone x t f = aspect x (fails meter_side t f) ∷ []

-- "refusal 4 or 9", in the frame's order; tests of other refusals have no place
abbrev pub aspects_of : FrameTest → List ℕ → List Aspect
aspects_of ShortFrame f = alone all_of_it ShortFrame f
aspects_of FlagMissing f =
    aspect opening_flag (not (eqb (byte f (start_of opening_flag f)) flag)) ∷ aspect closing_flag (not (eqb (byte f (start_of closing_flag f)) flag)) ∷ []
aspects_of FrameType f = alone format FrameType f
aspects_of LengthMismatch f = alone format LengthMismatch f
aspects_of LengthEightOrNine f = alone format LengthEightOrNine f
aspects_of WrongFcs f = alone fcs WrongFcs f
aspects_of WrongHcs f = alone hcs WrongHcs f
aspects_of EvenAddress f =
    aspect destination (eqb (byte f (start_of destination f) % 2) 0) ∷ aspect source (eqb (byte f (start_of source f) % 2) 0) ∷ []
aspects_of FrmrReceived f = []
aspects_of OverLength f = []
aspects_of SegmentBit f = alone format SegmentBit f
aspects_of PfClear f = alone control PfClear f
aspects_of WrongDestination f = alone destination WrongDestination f
aspects_of WrongSource f = alone source WrongSource f
aspects_of UnknownControl f = alone control UnknownControl f
aspects_of LinkDownWithInformation f = alone information LinkDownWithInformation f
aspects_of ShortInformation f = alone information ShortInformation f
-- the LLC begins the information
aspects_of WrongLlc f = alone information WrongLlc f

-- where the first wrong field begins
abbrev pub first_wrong : List Aspect → List ℕ → Option ℕ
first_wrong [] f = None
first_wrong (x ∷ xs) f = cond x.wrong (Some (start_of x.field f)) (first_wrong xs f)

-- What is claimed, for every call. Proved in proofs/Places.

-- the place that is told of a frame's test is that of the first field that fails it
abbrev pub PlacesRight : Type 0
PlacesRight =
    (m : Model) (a : Lent) (t : FrameTest)
    → found m a ≡ Err (OfFrame t)
    → place_found (found m a) a.received ≡ first_wrong (aspects_of t a.received) a.received

-- and there is one exactly for refusals 4 and 9
abbrev pub PlacesOnly : Type 0
PlacesOnly =
    (m : Model) (a : Lent)
    → is_some (place_found (found m a) a.received) ≡ (eqb (number_found (found m a)) 4 || eqb (number_found (found m a)) 9)

abbrev pub FieldsRight : Type 0
FieldsRight = (f : List ℕ) → FieldsStand f
