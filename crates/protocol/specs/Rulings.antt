-- What a frame on a sound meter comes to: the test of document 01 that it fails first, or none; what goes out; and the line
-- afterwards. The number of a refusal follows from the test; what goes out stands beside the test in specs/Decide. Refusals 1 to 3
-- are tested before, and a request that the body denies is refused by the model.
use Rattle.std.specs.Prelude.{List, [], ◌∷◌, ◌++◌, ℕ, None, Err}
use Rattle.model.specs.declared.CipherClient.{CipherClient}
use Rattle.model.specs.declared.Client.{Client}
use Rattle.model.specs.State.{Line}
use Rattle.model.specs.Objects.{Inquiry}
use Rattle.model.specs.Calls.{Wrap, Decision, answer, serve}
use Rattle.hdlc.specs.declared.Head.{Head}
use Rattle.hdlc.specs.declared.FrameTest.{FrameTest}
use Rattle.hdlc.specs.Tests.{number_of}
use Rattle.cosem.specs.Tags.{exception_bytes}
use Rattle.cosem.specs.declared.Exception.TheVariants.{ServiceUnknown}
use Rattle.acse.specs.Aare.{rejected_aare}
use Rattle.material.specs.Material.{Keys, keys_from}
use Rattle.envelope.specs.Layout.{sealed_envelope}
use Rattle.envelope.specs.Challenge.{proof_value}
use Rattle.envelope.specs.Opening.{opening_refusal, admission_refusal}
use Rattle.envelope.specs.declared.Unadmitted.TheVariants.{Unopened, OutsideWindow}
use Rattle.hdlc.specs.Replies.{ua_frame, dm_frame, frmr_frame, apdu_frame}

-- the tests in document 01's order, frames' own first; `none` is no failing test
pub data Test : Type 0 where
  none : Test
  frame : FrameTest → Test
  link_up_with_information p5_holds_v link_down_while_down data_while_down : Test
  unknown_tag tag_not_permitted bit_not_agreed : Test
  envelope_unopened outside_window : Test
  aarq_not_accepted malformed_apdu not_the_challenge wrong_proof : Test

-- the number of the refusal in document 01's table
abbrev pub refusal_of : Test → ℕ
refusal_of none = 0
refusal_of (frame t) = number_of t
refusal_of link_up_with_information = 10
refusal_of p5_holds_v = 10
refusal_of link_down_while_down = 10
refusal_of data_while_down = 10
refusal_of unknown_tag = 12
refusal_of tag_not_permitted = 12
refusal_of bit_not_agreed = 12
refusal_of aarq_not_accepted = opening_refusal None
refusal_of envelope_unopened = admission_refusal (Err Unopened)
refusal_of outside_window = admission_refusal (Err OutsideWindow)
refusal_of malformed_apdu = 12
refusal_of not_the_challenge = 12
refusal_of wrong_proof = 13

-- The envelopes that the meter makes: for which client, under which key and AK, from which title, with which tag and number,
-- around which text.

-- bytes; or the answer to a right proof: the meter's own, over this challenge, which takes a number itself
pub data Text : Type 0 where
  plain : List ℕ → Text
  proof : (invoke number : ℕ) → (challenge : List ℕ) → Text

pub record Envelope : Type 0 where
  pub client : CipherClient
  pub key : List ℕ
  pub ak : List ℕ
  pub title : List ℕ
  pub tag : ℕ
  pub number : ℕ
  pub text : Text

-- the answer to a right proof: the head of an ACTION's answer with data, and the meter's own proof
unfoldable pub proved_text : Keys → (title challenge : List ℕ) → (invoke number : ℕ) → List ℕ
proved_text k title challenge invoke number =
    (0xC7 ∷ 0x01 ∷ invoke ∷ 0x00 ∷ 0x01 ∷ 0x00 ∷ []) ++ proof_value k title challenge number

abbrev pub text_bytes : Keys → (title : List ℕ) → Text → List ℕ
text_bytes k title (plain bs) = bs
text_bytes k title (proof invoke number challenge) = proved_text k title challenge invoke number

abbrev pub closed : Envelope → List ℕ
closed e =
    sealed_envelope (keys_from e.key e.ak) e.title e.tag e.number (text_bytes (keys_from e.key e.ak) e.title e.text)

-- what goes out
pub data Reply : Type 0 where
  nothing : Reply
  ua dm : Head → Reply
  reject : Head → FrameTest → Reply
  apdu : Head → List ℕ → Reply
  -- an envelope, after these bytes
  encloses : Head → List ℕ → Envelope → Reply

abbrev pub bytes_of : Reply → List ℕ
bytes_of nothing = []
bytes_of (ua h) = ua_frame h
bytes_of (dm h) = dm_frame h
bytes_of (reject h t) = frmr_frame h t
bytes_of (apdu h a) = apdu_frame h a
bytes_of (encloses h bs e) = apdu_frame h (bs ++ closed e)

-- a frame that the line answers, or one that asks the body, with the line after it
pub data Ruling : Type 0 where
  says : Test → Reply → Line → Ruling
  asks : Inquiry → Wrap → Line → Ruling

-- an AARQ not accepted, by "any departure": the rejection, plain
abbrev pub refused_aarq : Client → Head → Line → Ruling
refused_aarq c h l = says aarq_not_accepted (apdu h (rejected_aare c)) l

-- "a malformed APDU other than an AARQ, D8 02 02"
abbrev pub refused_malformed : Head → Line → Ruling
refused_malformed h l = says malformed_apdu (apdu h (exception_bytes ServiceUnknown)) l

abbrev pub decision : Ruling → Decision
decision (says t r l) = answer (record { refusal = refusal_of t; sent = bytes_of r; line = l })
decision (asks q w l) = serve q w l
