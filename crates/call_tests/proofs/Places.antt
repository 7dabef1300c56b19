-- The places of specs/Places, and of every test what its number and its place are.
use mathlib.Core.Path.{◌≡◌, refl, ap, ◌∙◌}
use mathlib.Core.Bool.{Bool, true, false, not, cond, ◌||◌, false≢true}
use mathlib.Core.List.{List}
use Prim.Native.Nat.{ℕ, ◌-◌, ◌%◌}
use lib.Dec.{eqb}
use lib.ListN.{length}
use Rattle.std.specs.Prelude.{Option, Some, None, is_some}
use Rattle.hdlc.specs.Layout.{flag, byte, format_of, hcs_of, information_of, fcs_of}
use Rattle.hdlc.specs.Tests.{fails, meter_side, place_of as frame_place}
use Rattle.hdlc.specs.declared.FrameTest.{FrameTest}
use Rattle.call_tests.specs.declared.LentTest.TheVariants.{ReplyRoom, GukLength, AkLength, ChallengeLength}
use Rattle.hdlc.specs.declared.FrameTest.TheVariants.{ShortFrame, FlagMissing, FrameType, LengthMismatch, LengthEightOrNine, WrongFcs, WrongHcs, EvenAddress, FrmrReceived, OverLength, SegmentBit, PfClear, WrongDestination, WrongSource, UnknownControl, LinkDownWithInformation, ShortInformation, WrongLlc}
use Rattle.call_tests.specs.declared.LineTest.TheVariants.{LinkUpWithInformation, P5HoldsV, LinkDownWhileDown, DataWhileDown, UnknownTag, TagNotPermitted, BitNotAgreed, AarqNotAccepted, EnvelopeShape, EnvelopeTag, CounterWindow, MalformedApdu, NotTheChallenge, WrongProof}
use Rattle.call_tests.specs.declared.CallTest.{CallTest}
use Rattle.call_tests.specs.declared.CallTest.TheVariants.{Lent as OfLent, Sound as OfState, Frame as OfFrame, Line as OfLine, Body as OfBody}
use Rattle.call_tests.specs.Finding.{Finding}
use Rattle.std.specs.Prelude.{Ok, Err}
use Rattle.call_tests.specs.Tests.{found}
use Rattle.call_tests.specs.Lines.{number_of, number_found, place_of, place_found}
use Rattle.call_tests.specs.Places.{aspects_of, first_wrong, PlacesRight, PlacesOnly, FieldsRight}
use Rattle.call_tests.proofs.TestLaws.{named}

-- no test's number is 0, and a place goes with 4 and 9 alone
pub table : (t : CallTest) (f : List ℕ) → (eqb (number_of t) 0 ≡ false) × (is_some (place_of t f) ≡ (eqb (number_of t) 4 || eqb (number_of t) 9))
table (OfLent ReplyRoom) f = (refl, refl)
table (OfLent GukLength) f = (refl, refl)
table (OfLent AkLength) f = (refl, refl)
table (OfLent ChallengeLength) f = (refl, refl)
table (OfState t) f = (refl, refl)
table (OfFrame ShortFrame) f = (refl, refl)
table (OfFrame FlagMissing) f = (refl, refl)
table (OfFrame FrameType) f = (refl, refl)
table (OfFrame LengthMismatch) f = (refl, refl)
table (OfFrame LengthEightOrNine) f = (refl, refl)
table (OfFrame WrongFcs) f = (refl, refl)
table (OfFrame WrongHcs) f = (refl, refl)
table (OfFrame EvenAddress) f = (refl, refl)
table (OfFrame FrmrReceived) f = (refl, refl)
table (OfFrame OverLength) f = (refl, refl)
table (OfFrame SegmentBit) f = (refl, refl)
table (OfFrame PfClear) f = (refl, refl)
table (OfFrame WrongDestination) f = (refl, refl)
table (OfFrame WrongSource) f = (refl, refl)
table (OfFrame UnknownControl) f = (refl, refl)
table (OfFrame LinkDownWithInformation) f = (refl, refl)
table (OfFrame ShortInformation) f = (refl, refl)
table (OfFrame WrongLlc) f = (refl, refl)
table (OfLine LinkUpWithInformation) f = (refl, refl)
table (OfLine P5HoldsV) f = (refl, refl)
table (OfLine LinkDownWhileDown) f = (refl, refl)
table (OfLine DataWhileDown) f = (refl, refl)
table (OfLine UnknownTag) f = (refl, refl)
table (OfLine TagNotPermitted) f = (refl, refl)
table (OfLine BitNotAgreed) f = (refl, refl)
table (OfLine AarqNotAccepted) f = (refl, refl)
table (OfLine EnvelopeShape) f = (refl, refl)
table (OfLine EnvelopeTag) f = (refl, refl)
table (OfLine CounterWindow) f = (refl, refl)
table (OfLine MalformedApdu) f = (refl, refl)
table (OfLine NotTheChallenge) f = (refl, refl)
table (OfLine WrongProof) f = (refl, refl)
table (OfBody t) f = (refl, refl)

-- The fields.

pub fields_right : FieldsRight
unfolding format_of hcs_of information_of fcs_of
fields_right f = record { format = refl; destination = refl; source = refl; control = refl; hcs = refl; information = refl; fcs = refl }

module _ (f : List ℕ) where
  -- a test with one field
  one : (w : Bool) (at : ℕ) → w ≡ true → Some at ≡ cond w (Some at) None
  one w at e = rw e

  -- the flags: the first that is wrong
  flags : (x y : Bool) (at : ℕ) → not x || not y ≡ true → Some (cond x at 0) ≡ cond (not x) (Some 0) (cond (not y) (Some at) None)
  flags true true at e = absurd (false≢true e)
  flags true false at e = refl
  flags false y at e = refl

  addresses : (x y : Bool) → x || y ≡ true → ◌≡◌ {A = Option ℕ} (Some (cond x 3 4)) (cond x (Some 3) (cond y (Some 4) None))
  addresses true y e = refl
  addresses false true e = refl
  addresses false false e = absurd (false≢true e)

  place_right : (t : FrameTest) → fails meter_side t f ≡ true → frame_place t f ≡ first_wrong (aspects_of t f) f
  place_right ShortFrame e = one _ 0 e
  place_right FlagMissing e = flags (eqb (byte f 0) flag) (eqb (byte f (length f - 1)) flag) (length f - 1) e
  place_right FrameType e = one _ 1 e
  place_right LengthMismatch e = one _ 1 e
  place_right LengthEightOrNine e = one _ 1 e
  place_right WrongFcs e = one _ (length f - 3) e
  place_right WrongHcs e = one _ 6 e
  place_right EvenAddress e = addresses (eqb (byte f 3 % 2) 0) (eqb (byte f 4 % 2) 0) e
  place_right FrmrReceived e = refl
  place_right OverLength e = refl
  place_right SegmentBit e = one _ 1 e
  place_right PfClear e = one _ 5 e
  place_right WrongDestination e = one _ 3 e
  place_right WrongSource e = one _ 4 e
  place_right UnknownControl e = one _ 5 e
  place_right LinkDownWithInformation e = one _ 8 e
  place_right ShortInformation e = one _ 8 e
  place_right WrongLlc e = one _ 8 e

pub places_right : PlacesRight
places_right m a t e =
    ap (λ x. place_found x a.received) e ∙ place_right a.received t (named.first m a (OfFrame t) e).failed

place_only : (x : Finding) (f : List ℕ) → is_some (place_found x f) ≡ (eqb (number_found x) 4 || eqb (number_found x) 9)
place_only (Err t) f = (table t f).1
place_only (Ok _) f = refl

pub places_only : PlacesOnly
places_only m a = place_only (found m a) a.received
