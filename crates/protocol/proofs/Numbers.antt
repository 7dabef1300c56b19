-- The numbers of the protocol's answers are those of document 01's table.
use mathlib.Core.Path.{◌≡◌, refl}
use mathlib.Core.Bool.{true}
use Prim.Native.Nat.{ℕ}
use Rattle.model.specs.Periods.{listed}
use Rattle.model.specs.Archive.{frame_numbers, said_number, KnownNumbers}
use Rattle.hdlc.specs.declared.FrameTest.{FrameTest}
use Rattle.hdlc.specs.declared.FrameTest.TheVariants.{ShortFrame, FlagMissing, FrameType, LengthMismatch, LengthEightOrNine, WrongFcs, WrongHcs, EvenAddress, FrmrReceived, OverLength, SegmentBit, PfClear, WrongDestination, WrongSource, UnknownControl, LinkDownWithInformation, ShortInformation, WrongLlc}
use Rattle.hdlc.specs.Tests.{number_of}
use Rattle.protocol.specs.Rulings.{Test, none, frame, link_up_with_information, p5_holds_v, link_down_while_down, data_while_down, unknown_tag, tag_not_permitted, bit_not_agreed, aarq_not_accepted, envelope_unopened, outside_window, malformed_apdu, not_the_challenge, wrong_proof, refusal_of, Ruling, says, asks, decision}
use Rattle.protocol.specs.Decide.{ruled, decide, p2}

-- the numbers of a frame's own tests
pub data FrameNumber : ℕ → Type 0 where
  four : FrameNumber 4
  five : FrameNumber 5
  eight : FrameNumber 8
  nine : FrameNumber 9

pub frame_number : (t : FrameTest) → FrameNumber (number_of t)
frame_number ShortFrame = four
frame_number FlagMissing = four
frame_number FrameType = four
frame_number LengthMismatch = four
frame_number LengthEightOrNine = four
frame_number WrongFcs = four
frame_number WrongHcs = four
frame_number EvenAddress = four
frame_number FrmrReceived = five
frame_number OverLength = eight
frame_number SegmentBit = nine
frame_number PfClear = nine
frame_number WrongDestination = nine
frame_number WrongSource = nine
frame_number UnknownControl = nine
frame_number LinkDownWithInformation = nine
frame_number ShortInformation = nine
frame_number WrongLlc = nine

frame_listed : {n : ℕ} → FrameNumber n → listed n frame_numbers ≡ true
frame_listed four = refl
frame_listed five = refl
frame_listed eight = refl
frame_listed nine = refl

test_number : (t : Test) → listed (refusal_of t) frame_numbers ≡ true
test_number none = refl
test_number (frame t) = frame_listed (frame_number t)
test_number link_up_with_information = refl
test_number p5_holds_v = refl
test_number link_down_while_down = refl
test_number data_while_down = refl
test_number unknown_tag = refl
test_number tag_not_permitted = refl
test_number bit_not_agreed = refl
test_number aarq_not_accepted = refl
test_number envelope_unopened = refl
test_number outside_window = refl
test_number malformed_apdu = refl
test_number not_the_challenge = refl
test_number wrong_proof = refl

ruling_number : (r : Ruling) → listed (said_number (decision r)) frame_numbers ≡ true
ruling_number (says t r l) = test_number t
ruling_number (asks q w l) = refl

pub known_numbers : KnownNumbers p2
unfolding decide
known_numbers l a = ruling_number (ruled l a)
