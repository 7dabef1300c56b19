-- The order, the names and the example (specs/Claims), and that rows of document 01's table are met when a test of theirs fails first.
use mathlib.Core.Path.{◌≡◌, refl, sym, ap, ◌∙◌}
use mathlib.Core.Bool.{Bool, true, false, cond, not, ◌&&◌, false≢true}
use mathlib.Core.List.{List, [], ◌∷◌, ◌++◌, map}
use Prim.Native.Nat.{ℕ, suc, ◌≤◌}
use native.Mathlib.Omega.{arith}
use lib.ListN.{length, take, drop}
use borrow.Author.Tests.{le-ltb, eq-eqb}
use Rattle.model.specs.Limits.{longest_sent, reply_room}
use Rattle.model.specs.Names.{every}
use Rattle.model.specs.State.{Model}
use Rattle.model.specs.declared.SoundnessTest.{SoundnessTest}
use Rattle.model.specs.Soundness.{passes, soundness_tests, sound}
use Rattle.model.specs.Calls.{Lent}
use Rattle.hdlc.specs.declared.Frame.TheVariants.{Unanswered}
use Rattle.hdlc.specs.Tests.{first_failing as frame_failing}
use Rattle.gf2.specs.Shift.{step as shift, steps}
use Rattle.fcs.specs.Check.{check_of, check_from, check_byte, polynomial}
use Rattle.hdlc.specs.Layout.{format_of, fcs_of}
use Rattle.hdlc.specs.Addresses.{sender_of}
use Rattle.hdlc.specs.Reading.{refused_frame, read_frame}
use Rattle.protocol.specs.Decide.{secrets_of}
use Rattle.call_tests.specs.declared.LentTest.TheVariants.{ReplyRoom, GukLength, AkLength, ChallengeLength}
use Rattle.model.specs.declared.SoundnessTest.TheVariants.{RegisterList, ColumnList, PeriodPermitted, ClockValid, RowClocksValid, RowCount, RowCells, AssociationKind, AssociationOnLink, AgreedServices, TransferPossible}
use Rattle.hdlc.specs.declared.FrameTest.TheVariants.{ShortFrame, FlagMissing, FrameType, LengthMismatch, LengthEightOrNine, WrongFcs, WrongHcs, EvenAddress, FrmrReceived, OverLength, SegmentBit, PfClear, WrongDestination, WrongSource, UnknownControl, LinkDownWithInformation, ShortInformation, WrongLlc}
use Rattle.call_tests.specs.declared.LineTest.TheVariants.{LinkUpWithInformation, P5HoldsV, LinkDownWhileDown, DataWhileDown, UnknownTag, TagNotPermitted, BitNotAgreed, AarqNotAccepted, EnvelopeShape, EnvelopeTag, CounterWindow, MalformedApdu, NotTheChallenge, WrongProof}
use Rattle.call_tests.specs.declared.BodyTest.TheVariants.{NameUnknown, ClassWrong, NotServed, ParameterShape, EntriesWrong, RangeWrong, AnswerTooLong, TransferEnded, NoTransfer, BlockNumber}
use Rattle.call_tests.specs.declared.CallTest.{CallTest}
use Rattle.call_tests.specs.declared.CallTest.TheVariants.{Lent as OfLent, Sound as OfState, Frame as OfFrame, Line as OfLine, Body as OfBody}
use Rattle.call_tests.specs.Finding.{Finding}
use Rattle.std.specs.Prelude.{codes, Ok, Err}
use Rattle.call_tests.specs.Tests.{call_fails, call_tests, first_failing, found}
use Rattle.call_tests.specs.Lines.{number_of, number_found, line_found, spelled}
use Rattle.call_tests.specs.Claims.{Stands, AllStand, NamesApart, NoneWhenAccepted, Met, MetWhen, WellLent, wrong_check, ExampleTold}
use Rattle.call_tests.specs.Road.{heard_finds, lent_finds, state_finds, road_finds}
use Rattle.call_tests.proofs.TestLaws.{named}
use Rattle.call_tests.proofs.Road.{found_road}
use Rattle.call_tests.proofs.Numbers.{right_number}
use Rattle.call_tests.proofs.Places.{table}

-- Where each test stands.

at : {t : CallTest} (k : ℕ) → call_tests ≡ take k call_tests ++ t ∷ drop (suc k) call_tests → Stands t
at {t} k e = record { before = take k call_tests; after = drop (suc k) call_tests; order = e }

pub all_stand : AllStand
all_stand (OfLent ReplyRoom) = at 0 refl
all_stand (OfLent GukLength) = at 1 refl
all_stand (OfLent AkLength) = at 2 refl
all_stand (OfLent ChallengeLength) = at 3 refl
all_stand (OfState RegisterList) = at 4 refl
all_stand (OfState ColumnList) = at 5 refl
all_stand (OfState PeriodPermitted) = at 6 refl
all_stand (OfState ClockValid) = at 7 refl
all_stand (OfState RowClocksValid) = at 8 refl
all_stand (OfState RowCount) = at 9 refl
all_stand (OfState RowCells) = at 10 refl
all_stand (OfState AssociationKind) = at 11 refl
all_stand (OfState AssociationOnLink) = at 12 refl
all_stand (OfState AgreedServices) = at 13 refl
all_stand (OfState TransferPossible) = at 14 refl
all_stand (OfFrame ShortFrame) = at 15 refl
all_stand (OfFrame FlagMissing) = at 16 refl
all_stand (OfFrame FrameType) = at 17 refl
all_stand (OfFrame LengthMismatch) = at 18 refl
all_stand (OfFrame LengthEightOrNine) = at 19 refl
all_stand (OfFrame WrongFcs) = at 20 refl
all_stand (OfFrame WrongHcs) = at 21 refl
all_stand (OfFrame EvenAddress) = at 22 refl
all_stand (OfFrame FrmrReceived) = at 23 refl
all_stand (OfFrame OverLength) = at 24 refl
all_stand (OfFrame SegmentBit) = at 25 refl
all_stand (OfFrame PfClear) = at 26 refl
all_stand (OfFrame WrongDestination) = at 27 refl
all_stand (OfFrame WrongSource) = at 28 refl
all_stand (OfFrame UnknownControl) = at 29 refl
all_stand (OfFrame LinkDownWithInformation) = at 30 refl
all_stand (OfFrame ShortInformation) = at 31 refl
all_stand (OfFrame WrongLlc) = at 32 refl
all_stand (OfLine LinkUpWithInformation) = at 33 refl
all_stand (OfLine P5HoldsV) = at 34 refl
all_stand (OfLine LinkDownWhileDown) = at 35 refl
all_stand (OfLine DataWhileDown) = at 36 refl
all_stand (OfLine UnknownTag) = at 37 refl
all_stand (OfLine TagNotPermitted) = at 38 refl
all_stand (OfLine BitNotAgreed) = at 39 refl
all_stand (OfLine AarqNotAccepted) = at 40 refl
all_stand (OfLine EnvelopeShape) = at 41 refl
all_stand (OfLine EnvelopeTag) = at 42 refl
all_stand (OfLine CounterWindow) = at 43 refl
all_stand (OfLine MalformedApdu) = at 44 refl
all_stand (OfLine NotTheChallenge) = at 45 refl
all_stand (OfLine WrongProof) = at 46 refl
all_stand (OfBody NameUnknown) = at 47 refl
all_stand (OfBody ClassWrong) = at 48 refl
all_stand (OfBody NotServed) = at 49 refl
all_stand (OfBody ParameterShape) = at 50 refl
all_stand (OfBody EntriesWrong) = at 51 refl
all_stand (OfBody RangeWrong) = at 52 refl
all_stand (OfBody AnswerTooLong) = at 53 refl
all_stand (OfBody TransferEnded) = at 54 refl
all_stand (OfBody NoTransfer) = at 55 refl
all_stand (OfBody BlockNumber) = at 56 refl

pub names_apart : NamesApart
names_apart = refl

-- The number.

accepted_none : (m : Model) (a : Lent) (x : Finding) → found m a ≡ x → number_found x ≡ 0 → found m a ≡ Ok tt
accepted_none m a (Err t) e n = absurd (false≢true (sym (table t []).0 ∙ eq-eqb (number_of t) 0 n))
accepted_none m a (Ok _) e n = e

pub none_when_accepted : NoneWhenAccepted
none_when_accepted =
    record {
      none = λ m a e. right_number m a ∙ ap number_found e;
      accepted = λ m a n. accepted_none m a (found m a) refl (sym (right_number m a) ∙ n);
    }

met_by : (m : Model) (a : Lent) (n : ℕ) → 1 ≤ n → (x : Finding) → found m a ≡ x → number_found x ≡ n → Met m a n
met_by m a n p (Err t) e q = record { test = t; row = q; first = named.first m a t e }
met_by m a n p (Ok _) e q = absurd (let z : 0 ≡ n = q in omega arith)

pub met_when : MetWhen
met_when =
    record {
      met = λ m a n p q. met_by m a n p (found m a) refl (sym (right_number m a) ∙ q);
      answered = λ m a n k. right_number m a ∙ ap number_found (named.only m a k.test k.first) ∙ k.row;
    }

-- The example.

lent_passes : (m : Model) (a : Lent) → WellLent a → lent_finds m a ≡ Ok tt
unfolding lent_finds first_failing
lent_passes m a w =
    rw (le-ltb a.room (reply_room longest_sent) w.room, eq-eqb (length a.guk) 16 w.guk, eq-eqb (length a.ak) 16 w.ak, eq-eqb (length a.challenge) 8 w.challenge) refl

state_passes : (m : Model) (a : Lent) (k : ℕ) (ts : List SoundnessTest) → every (λ i t. passes t m) k ts ≡ true → first_failing (call_fails m a) (map OfState ts) ≡ Ok tt
unfolding first_failing
state_passes m a k [] e = refl
state_passes m a k (t ∷ ts) e = go (passes t m) e (state_passes m a (suc k) ts)
  where
    go : (p : Bool) → p && every (λ i u. passes u m) (suc k) ts ≡ true → (every (λ i u. passes u m) (suc k) ts ≡ true → first_failing (call_fails m a) (map OfState ts) ≡ Ok tt)
        → cond (not p) (Err (OfState t)) (first_failing (call_fails m a) (map OfState ts)) ≡ Ok tt
    go true q r = r q
    go false q r = absurd (false≢true q)

-- a call that lends what it should, on a sound meter, comes to what its frame does
pub sound_road : (m : Model) (a : Lent) → sound m ≡ true → WellLent a → found m a ≡ heard_finds m.line m.body (secrets_of a) a.received (read_frame a.received)
unfolding road_finds state_finds sound
sound_road m a s w = found_road m a ∙ rw (lent_passes m a w, state_passes m a 0 soundness_tests s) refl

example_read : read_frame wrong_check ≡ Unanswered WrongFcs
unfolding read_frame refused_frame frame_failing sender_of format_of fcs_of check_of check_from check_byte polynomial shift steps
example_read = refl

example_line : line_found (Err (OfFrame WrongFcs)) wrong_check ≡ codes "4 wrong-FCS 6"
unfolding line_found spelled
example_line = refl

pub example_told : ExampleTold
example_told m a s w e =
    let reads : read_frame a.received ≡ Unanswered WrongFcs = ap read_frame e ∙ example_read in
    let finds : found m a ≡ Err (OfFrame WrongFcs) = sound_road m a s w ∙ ap (heard_finds m.line m.body (secrets_of a) a.received) reads in
    ap (λ x. line_found x a.received) finds ∙ ap (line_found (Err (OfFrame WrongFcs))) e ∙ example_line
