-- The tests of a received frame (document 01, "The frame"): when a frame fails each, their order, the first that fails, its
-- refusal number, and the byte at which it fails. Everything else about a refused frame follows from these.
use Rattle.std.specs.Prelude.{Bool, true, false, not, ◌&&◌, ◌||◌, cond, List, [], ◌∷◌, ◌++◌, ◌≡◌, ℕ, ◌-◌, ◌/◌, ◌%◌, eqb, ltb, length, take, Option, Some, None, is_some, Result, Ok, Err}
use Rattle.fcs.specs.Check.{check_of}
use Rattle.model.specs.Limits.{greatest_length, longest_received, longest_sent}
use Rattle.model.specs.declared.Client.{Client}
use Rattle.wire.specs.Reading.{same_bytes}
use Rattle.hdlc.specs.Layout.{flag, snrm, disc, ui, byte, type_of, segment_bit, length_of, hcs_of, hcs_covers, information_of, fcs_of, fcs_covers}
use Rattle.hdlc.specs.Addresses.{meter_address, address_of, sender_of}
use Rattle.hdlc.specs.declared.FrameTest.{FrameTest}
use Rattle.hdlc.specs.declared.FrameTest.TheVariants.{ShortFrame, FlagMissing, FrameType, LengthMismatch, LengthEightOrNine, WrongFcs, WrongHcs, EvenAddress, FrmrReceived, OverLength, SegmentBit, PfClear, WrongDestination, WrongSource, UnknownControl, LinkDownWithInformation, ShortInformation, WrongLlc}

-- The side of the link that reads: its address, the addresses that it takes frames from, the LLC that it expects, and the
-- longest information that it takes. Of data frames the tests are the same on both sides.
pub record Side : Type 0 where
  pub own : ℕ
  pub takes : ℕ → Bool
  pub llc : List ℕ
  pub longest : ℕ

-- LLC, "E6 E6 00 in a request and E6 E7 00 in a reply"
abbrev pub request_llc : List ℕ
request_llc = 0xE6 ∷ 0xE6 ∷ 0x00 ∷ []

abbrev pub reply_llc : List ℕ
reply_llc = 0xE6 ∷ 0xE7 ∷ 0x00 ∷ []

-- the meter, which takes requests of the clients
abbrev pub meter_side : Side
meter_side =
    record { own = meter_address; takes = λ a. is_some (sender_of a); llc = request_llc; longest = longest_received }

-- a client, which takes data frames of the meter
abbrev pub client_side : Client → Side
client_side c =
    record { own = address_of c; takes = λ a. eqb a meter_address; llc = reply_llc; longest = longest_sent }

-- the side r would refuse the frame f by the test
abbrev pub fails : Side → FrameTest → List ℕ → Bool
-- refusal 4
fails r ShortFrame f = ltb (length f) 9
fails r FlagMissing f = not (eqb (byte f 0) flag) || not (eqb (byte f (length f - 1)) flag)
fails r FrameType f = not (eqb (type_of f) 0xA)
fails r LengthMismatch f = not (eqb (length_of f) (length f - 2))
fails r LengthEightOrNine f = eqb (length_of f) 8 || eqb (length_of f) 9
fails r WrongFcs f = not (eqb (check_of (fcs_covers f)) (fcs_of f))
fails r WrongHcs f = ltb 8 (length_of f) && not (eqb (check_of (hcs_covers f)) (hcs_of f))
fails r EvenAddress f = eqb (byte f 3 % 2) 0 || eqb (byte f 4 % 2) 0
-- refusal 5
fails r FrmrReceived f = eqb (byte f 5) 0x87 || eqb (byte f 5) 0x97
-- refusal 8
fails r OverLength f = ltb (greatest_length r.longest) (length_of f)
-- refusal 9
fails r SegmentBit f = eqb (segment_bit f) 1
fails r PfClear f = eqb (byte f 5 / 0x10 % 2) 0
fails r WrongDestination f = not (eqb (byte f 3) r.own)
fails r WrongSource f = not (r.takes (byte f 4))
fails r UnknownControl f = not (eqb (byte f 5) snrm || eqb (byte f 5) disc || eqb (byte f 5) ui)
fails r LinkDownWithInformation f = eqb (byte f 5) disc && ltb 0 (length (information_of f))
fails r ShortInformation f = eqb (byte f 5) ui && ltb (length (information_of f)) 4
fails r WrongLlc f = eqb (byte f 5) ui && not (same_bytes (take 3 (information_of f)) r.llc)

-- the tests "in this order"
abbrev pub frame_tests : List FrameTest
frame_tests =
    ShortFrame
    ∷ FlagMissing
    ∷ FrameType
    ∷ LengthMismatch
    ∷ LengthEightOrNine
    ∷ WrongFcs
    ∷ WrongHcs
    ∷ EvenAddress
    ∷ FrmrReceived
    ∷ OverLength
    ∷ SegmentBit
    ∷ PfClear
    ∷ WrongDestination
    ∷ WrongSource
    ∷ UnknownControl
    ∷ LinkDownWithInformation
    ∷ ShortInformation
    ∷ WrongLlc
    ∷ []

-- what a list of tests comes to: the first that the frame fails is the error
unfoldable pub first_failing : Side → List FrameTest → List ℕ → Result (Unit {0}) FrameTest
first_failing r [] f = Ok tt
first_failing r (t ∷ ts) f = cond (fails r t f) (Err t) (first_failing r ts f)

-- the frame passes every test of a list
pub data AllPass (r : Side) (f : List ℕ) : List FrameTest → Type 0 where
  none : AllPass r f []
  more : (t : FrameTest) {ts : List FrameTest} → fails r t f ≡ false → AllPass r f ts → AllPass r f (t ∷ ts)

-- t is a test of the list that the frame fails, and it passes all before it; proofs/TestLaws shows it of `first_failing`
pub record FirstOf (r : Side) (ts : List FrameTest) (f : List ℕ) (t : FrameTest) : Type 0 where
  pub before : List FrameTest
  pub after : List FrameTest
  pub order : ts ≡ before ++ t ∷ after
  pub passed : AllPass r f before
  pub failed : fails r t f ≡ true

-- the refusal of document 01 that a test belongs to
abbrev pub number_of : FrameTest → ℕ
number_of ShortFrame = 4
number_of FlagMissing = 4
number_of FrameType = 4
number_of LengthMismatch = 4
number_of LengthEightOrNine = 4
number_of WrongFcs = 4
number_of WrongHcs = 4
number_of EvenAddress = 4
number_of FrmrReceived = 5
number_of OverLength = 8
number_of SegmentBit = 9
number_of PfClear = 9
number_of WrongDestination = 9
number_of WrongSource = 9
number_of UnknownControl = 9
number_of LinkDownWithInformation = 9
number_of ShortInformation = 9
number_of WrongLlc = 9

-- the first byte of the field that fails the test, counted from 0, of two fields the first that fails; information that is
-- absent, short or unwanted counts as byte 8
abbrev pub place_of : FrameTest → List ℕ → Option ℕ
place_of ShortFrame f = Some 0
place_of FlagMissing f = Some (cond (eqb (byte f 0) flag) (length f - 1) 0)
place_of FrameType f = Some 1
place_of LengthMismatch f = Some 1
place_of LengthEightOrNine f = Some 1
place_of WrongFcs f = Some (length f - 3)
place_of WrongHcs f = Some 6
place_of EvenAddress f = Some (cond (eqb (byte f 3 % 2) 0) 3 4)
place_of FrmrReceived f = None
place_of OverLength f = None
place_of SegmentBit f = Some 1
place_of PfClear f = Some 5
place_of WrongDestination f = Some 3
place_of WrongSource f = Some 4
place_of UnknownControl f = Some 5
place_of LinkDownWithInformation f = Some 8
place_of ShortInformation f = Some 8
place_of WrongLlc f = Some 8

-- Stretches of the list that one function each goes through. By proofs/ReadingLaws they are the list, with ShortFrame before
-- them and WrongSource before the last.

abbrev pub layout_tests : List FrameTest
layout_tests = FlagMissing ∷ FrameType ∷ LengthMismatch ∷ LengthEightOrNine ∷ []

abbrev pub check_tests : List FrameTest
check_tests = WrongFcs ∷ WrongHcs ∷ EvenAddress ∷ FrmrReceived ∷ []

abbrev pub header_tests : List FrameTest
header_tests = OverLength ∷ SegmentBit ∷ PfClear ∷ WrongDestination ∷ []

abbrev pub control_tests : List FrameTest
control_tests = UnknownControl ∷ LinkDownWithInformation ∷ ShortInformation ∷ WrongLlc ∷ []
