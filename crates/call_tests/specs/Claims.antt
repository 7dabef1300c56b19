-- What is claimed of the test that is named (document 02, Q-2): "that the test named fails, that all before it in 01's order pass, and
-- that the real call gives this number", for every meter, sound or not, and all that is lent. No test's definition names a number or
-- the call, so none of this holds by definition. Proved in proofs/.
use Rattle.std.specs.Prelude.{◌≡◌, Bool, true, false, not, ◌&&◌, List, [], ◌∷◌, ◌++◌, map, ℕ, ◌≤◌, length, Ok, Err, codes, bytes_eq}
use Rattle.model.specs.Limits.{longest_sent, reply_room}
use Rattle.model.specs.State.{Body, Model}
use Rattle.model.specs.Soundness.{sound}
use Rattle.model.specs.Objects.{Meaning, meaning, Service, get, action, Request, Inquiry, ask, go_on, Result, denied, attribute_read, method_invoked, turned}
use Rattle.model.specs.Calls.{Lent, frame, step}
use Rattle.model.specs.Blocks.{refused_by}
use Rattle.protocol.specs.Decide.{p2}
use Rattle.call_tests.specs.declared.BodyTest.{BodyTest}
use Rattle.call_tests.specs.declared.CallTest.{CallTest}
use Rattle.call_tests.specs.declared.CallTest.TheVariants.{Lent as OfLent, Sound as OfState, Frame as OfFrame, Line as OfLine, Body as OfBody}
use Rattle.call_tests.specs.Tests.{inquiry_fails, body_tests, call_fails, call_tests, first_failing, found}
use Rattle.call_tests.specs.Lines.{number_of, code_of, number_found, name_of, name_found, line_found}

-- The order.

-- the call passes every test of a list
pub data AllPass (m : Model) (a : Lent) : List CallTest → Type 0 where
  none : AllPass m a []
  more : (t : CallTest) {ts : List CallTest} → call_fails m a t ≡ false → AllPass m a ts → AllPass m a (t ∷ ts)

-- t is a test of the list that the call fails, and it passes all before it
pub record FirstOf (m : Model) (a : Lent) (ts : List CallTest) (t : CallTest) : Type 0 where
  pub before : List CallTest
  pub after : List CallTest
  pub order : ts ≡ before ++ t ∷ after
  pub passed : AllPass m a before
  pub failed : call_fails m a t ≡ true

-- "the test named fails .. all before it in 01's order pass"; and no other is named
pub record Named : Type 0 where
  pub first : (m : Model) (a : Lent) (t : CallTest) → found m a ≡ Err t → FirstOf m a call_tests t
  pub only : (m : Model) (a : Lent) (t : CallTest) → FirstOf m a call_tests t → found m a ≡ Err t
  pub none : (m : Model) (a : Lent) → found m a ≡ Ok tt → AllPass m a call_tests

-- where a test stands in the list
pub record Stands (t : CallTest) : Type 0 where
  pub before : List CallTest
  pub after : List CallTest
  pub order : call_tests ≡ before ++ t ∷ after

-- every test stands in it
abbrev pub AllStand : Type 0
AllStand = (t : CallTest) → Stands t

-- "names .., one for each test": no two of a list are the same text

abbrev pub none_same : List ℕ → List (List ℕ) → Bool
none_same x [] = true
none_same x (y ∷ ys) = not (bytes_eq x y) && none_same x ys

abbrev pub all_apart : List (List ℕ) → Bool
all_apart [] = true
all_apart (x ∷ xs) = none_same x xs && all_apart xs

abbrev pub NamesApart : Type 0
NamesApart = all_apart (name_found (Ok tt) ∷ map name_of call_tests) ≡ true

-- The number.

-- the refusal of the call, by document 01's definitions
abbrev pub refusal_in : Model → Lent → ℕ
refusal_in m a = (step p2 (frame a) m).refusal

-- "the real call gives this number"
abbrev pub RightNumber : Type 0
RightNumber = (m : Model) (a : Lent) → refusal_in m a ≡ number_found (found m a)

-- "0 none - if accepted": none is named exactly where the call is accepted
pub record NoneWhenAccepted : Type 0 where
  pub none : (m : Model) (a : Lent) → found m a ≡ Ok tt → refusal_in m a ≡ 0
  pub accepted : (m : Model) (a : Lent) → refusal_in m a ≡ 0 → found m a ≡ Ok tt

-- a row of document 01's table is "met when" the call fails one of its tests and passes all before this one
pub record Met (m : Model) (a : Lent) (n : ℕ) : Type 0 where
  pub test : CallTest
  pub row : number_of test ≡ n
  pub first : FirstOf m a call_tests test

pub record MetWhen : Type 0 where
  pub met : (m : Model) (a : Lent) (n : ℕ) → 1 ≤ n → refusal_in m a ≡ n → Met m a n
  pub answered : (m : Model) (a : Lent) (n : ℕ) → Met m a n → refusal_in m a ≡ n

-- The result code.

-- what the body answers a request: data, or a code
abbrev pub result_of : Request → Body → Meaning → Service → Result
result_of q b w (get attribute s) = attribute_read q attribute s b w
result_of q b w (action method v) = method_invoked q method v w

-- a request by itself fails tests of the body alone
abbrev pub request_fails : Inquiry → Body → CallTest → Bool
request_fails q b (OfLent t) = false
request_fails q b (OfState t) = false
request_fails q b (OfFrame t) = false
request_fails q b (OfLine t) = false
request_fails q b (OfBody t) = inquiry_fails q b t

-- a request is denied by the code of the first test that it fails; a numbered request by a block with this code
pub record CodesRight : Type 0 where
  pub request :
      (q : Request) (b : Body) (t : BodyTest)
      → first_failing (request_fails (ask q) b) (map OfBody body_tests) ≡ Err (OfBody t)
      → result_of q b (meaning q.client q.name b.store.registers) q.service ≡ denied (code_of t)
  pub numbered :
      (i n : ℕ) (b : Body) (t : BodyTest)
      → first_failing (request_fails (go_on i n) b) (map OfBody body_tests) ≡ Err (OfBody t)
      → turned (go_on i n) b ≡ refused_by (code_of t) i n b

-- The example.

-- a call that lends what it should
pub record WellLent (a : Lent) : Type 0 where
  pub room : reply_room longest_sent ≤ a.room
  pub guk : length a.guk ≡ 16
  pub ak : length a.ak ≡ 16
  pub challenge : length a.challenge ≡ 8

-- "7E A0 07 03 21 93 0F 00 7E prints 4 wrong-FCS 6", of every sound meter
abbrev pub wrong_check : List ℕ
wrong_check = 0x7E ∷ 0xA0 ∷ 0x07 ∷ 0x03 ∷ 0x21 ∷ 0x93 ∷ 0x0F ∷ 0x00 ∷ 0x7E ∷ []

abbrev pub ExampleTold : Type 0
ExampleTold =
    (m : Model) (a : Lent)
    → sound m ≡ true
    → WellLent a
    → a.received ≡ wrong_check
    → line_found (found m a) a.received ≡ codes "4 wrong-FCS 6"
