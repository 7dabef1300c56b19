-- What is told of a call (document 02, Q-2): "one line, single spaces between: the refusal number, the test that failed .., and for
-- refusal 4 or 9 the failing field's first byte counted from 0 .., else -"; "0 none - if accepted".
use Rattle.std.specs.Prelude.{cond, List, ◌++◌, ℕ, zero, suc, ◌/◌, ltb, Option, Some, None, codes, Ok, Err}
use Rattle.io.specs.Digits.{last_digits}
use Rattle.model.specs.declared.SoundnessTest.{SoundnessTest}
use Rattle.model.specs.declared.SoundnessTest.TheVariants.{RegisterList, ColumnList, PeriodPermitted, ClockValid, RowClocksValid, RowCount, RowCells, AssociationKind, AssociationOnLink, AgreedServices, TransferPossible}
use Rattle.hdlc.specs.declared.FrameTest.{FrameTest}
use Rattle.hdlc.specs.declared.FrameTest.TheVariants.{ShortFrame, FlagMissing, FrameType, LengthMismatch, LengthEightOrNine, WrongFcs, WrongHcs, EvenAddress, FrmrReceived, OverLength, SegmentBit, PfClear, WrongDestination, WrongSource, UnknownControl, LinkDownWithInformation, ShortInformation, WrongLlc}
use Rattle.hdlc.specs.Tests.{number_of as frame_number, place_of as frame_place}
use Rattle.call_tests.specs.declared.LentTest.{LentTest}
use Rattle.call_tests.specs.declared.LentTest.TheVariants.{ReplyRoom, GukLength, AkLength, ChallengeLength}
use Rattle.call_tests.specs.declared.LineTest.{LineTest}
use Rattle.call_tests.specs.declared.LineTest.TheVariants.{LinkUpWithInformation, P5HoldsV, LinkDownWhileDown, DataWhileDown, UnknownTag, TagNotPermitted, BitNotAgreed, AarqNotAccepted, EnvelopeShape, EnvelopeTag, CounterWindow, MalformedApdu, NotTheChallenge, WrongProof}
use Rattle.call_tests.specs.declared.BodyTest.{BodyTest}
use Rattle.call_tests.specs.declared.BodyTest.TheVariants.{NameUnknown, ClassWrong, NotServed, ParameterShape, EntriesWrong, RangeWrong, AnswerTooLong, TransferEnded, NoTransfer, BlockNumber}
use Rattle.call_tests.specs.declared.CallTest.{CallTest}
use Rattle.call_tests.specs.declared.CallTest.TheVariants.{Lent as OfLent, Sound as OfState, Frame as OfFrame, Line as OfLine, Body as OfBody}
use Rattle.call_tests.specs.Finding.{Finding}

-- The refusal number: that of the row of document 01's table which the test is part of.

abbrev pub lent_number : LentTest → ℕ
lent_number ReplyRoom = 1
lent_number GukLength = 2
lent_number AkLength = 2
lent_number ChallengeLength = 2

abbrev pub line_number : LineTest → ℕ
line_number LinkUpWithInformation = 10
line_number P5HoldsV = 10
line_number LinkDownWhileDown = 10
line_number DataWhileDown = 10
line_number UnknownTag = 12
line_number TagNotPermitted = 12
line_number BitNotAgreed = 12
line_number AarqNotAccepted = 11
line_number EnvelopeShape = 6
line_number EnvelopeTag = 6
line_number CounterWindow = 7
line_number MalformedApdu = 12
line_number NotTheChallenge = 12
line_number WrongProof = 13

abbrev pub number_of : CallTest → ℕ
number_of (OfLent t) = lent_number t
number_of (OfState t) = 3
number_of (OfFrame t) = frame_number t
number_of (OfLine t) = line_number t
number_of (OfBody t) = 13

-- the result code in the answer to a request that is denied, and in the block that a numbered request is refused by
abbrev pub code_of : BodyTest → ℕ
code_of NameUnknown = 4
code_of ClassWrong = 9
code_of NotServed = 3
code_of ParameterShape = 12
code_of EntriesWrong = 13
code_of RangeWrong = 13
code_of AnswerTooLong = 250
code_of TransferEnded = 15
code_of NoTransfer = 16
code_of BlockNumber = 19

abbrev pub number_found : Finding → ℕ
number_found (Err t) = number_of t
number_found (Ok _) = 0

-- The name, as its letters, which are all ASCII.

abbrev pub lent_name : LentTest → List ℕ
lent_name ReplyRoom = codes "reply-room"
lent_name GukLength = codes "GUK-length"
lent_name AkLength = codes "AK-length"
lent_name ChallengeLength = codes "challenge-length"

abbrev pub state_name : SoundnessTest → List ℕ
state_name RegisterList = codes "register-list"
state_name ColumnList = codes "column-list"
state_name PeriodPermitted = codes "period"
state_name ClockValid = codes "clock"
state_name RowClocksValid = codes "row-clock"
state_name RowCount = codes "row-count"
state_name RowCells = codes "row-cells"
state_name AssociationKind = codes "association-kind"
state_name AssociationOnLink = codes "association-without-link"
state_name AgreedServices = codes "agreed-services"
state_name TransferPossible = codes "transfer"

abbrev pub frame_name : FrameTest → List ℕ
frame_name ShortFrame = codes "short-frame"
frame_name FlagMissing = codes "flag-missing"
frame_name FrameType = codes "frame-type"
frame_name LengthMismatch = codes "length-mismatch"
frame_name LengthEightOrNine = codes "length-8-or-9"
frame_name WrongFcs = codes "wrong-FCS"
frame_name WrongHcs = codes "wrong-HCS"
frame_name EvenAddress = codes "even-address"
frame_name FrmrReceived = codes "FRMR-received"
frame_name OverLength = codes "over-length"
frame_name SegmentBit = codes "segment-bit"
frame_name PfClear = codes "PF-clear"
frame_name WrongDestination = codes "wrong-destination"
frame_name WrongSource = codes "wrong-source"
frame_name UnknownControl = codes "unknown-control"
frame_name LinkDownWithInformation = codes "link-down-with-information"
frame_name ShortInformation = codes "short-information"
frame_name WrongLlc = codes "wrong-LLC"

abbrev pub line_name : LineTest → List ℕ
line_name LinkUpWithInformation = codes "link-up-with-information"
line_name P5HoldsV = codes "P5-holds-V"
line_name LinkDownWhileDown = codes "link-down-while-down"
line_name DataWhileDown = codes "data-while-down"
line_name UnknownTag = codes "unknown-tag"
line_name TagNotPermitted = codes "tag-not-permitted"
line_name BitNotAgreed = codes "bit-not-agreed"
line_name AarqNotAccepted = codes "AARQ-not-accepted"
line_name EnvelopeShape = codes "envelope-shape"
line_name EnvelopeTag = codes "envelope-tag"
line_name CounterWindow = codes "counter-window"
line_name MalformedApdu = codes "malformed-APDU"
line_name NotTheChallenge = codes "not-the-challenge"
line_name WrongProof = codes "wrong-proof"

abbrev pub body_name : BodyTest → List ℕ
body_name NameUnknown = codes "name-unknown"
body_name ClassWrong = codes "class-wrong"
body_name NotServed = codes "not-served"
body_name ParameterShape = codes "parameter-shape"
body_name EntriesWrong = codes "entries-wrong"
body_name RangeWrong = codes "range-wrong"
body_name AnswerTooLong = codes "answer-too-long"
body_name TransferEnded = codes "transfer-ended"
body_name NoTransfer = codes "no-transfer"
body_name BlockNumber = codes "block-number"

abbrev pub name_of : CallTest → List ℕ
name_of (OfLent t) = lent_name t
name_of (OfState t) = state_name t
name_of (OfFrame t) = frame_name t
name_of (OfLine t) = line_name t
name_of (OfBody t) = body_name t

abbrev pub name_found : Finding → List ℕ
name_found (Err t) = name_of t
name_found (Ok _) = codes "none"

-- The place, of a frame's own tests: "for refusal 4 or 9". specs/Places says that it is the failing field's first byte.

abbrev pub place_of : CallTest → (received : List ℕ) → Option ℕ
place_of (OfLent t) f = None
place_of (OfState t) f = None
place_of (OfFrame t) f = frame_place t f
place_of (OfLine t) f = None
place_of (OfBody t) f = None

abbrev pub place_found : Finding → (received : List ℕ) → Option ℕ
place_found (Err t) f = place_of t f
place_found (Ok _) f = None

-- The line.

-- how many decimal digits a number has, of at most so many and one
abbrev pub digits_within : ℕ → ℕ → ℕ
digits_within zero n = 1
digits_within (suc k) n = cond (ltb n 10) 1 (suc (digits_within k (n / 10)))

-- a number of at most twenty digits, which every number of 64 bits is
abbrev pub decimal : ℕ → List ℕ
decimal n = last_digits 10 (digits_within 19 n) n

abbrev pub place_text : Option ℕ → List ℕ
place_text (Some at) = decimal at
place_text None = codes "-"

unfoldable pub spelled : (number : ℕ) → (name : List ℕ) → Option ℕ → List ℕ
spelled number name place = decimal number ++ (codes " " ++ (name ++ (codes " " ++ place_text place)))

-- of what was found of a call with this frame
unfoldable pub line_found : Finding → (received : List ℕ) → List ℕ
line_found x f = spelled (number_found x) (name_found x) (place_found x f)
