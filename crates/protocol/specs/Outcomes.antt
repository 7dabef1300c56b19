-- Document 01's table "What goes out", for frame calls: its rows, and its cells one by one, of every meter, sound or not, and
-- whatever is lent. Of its columns these are the number, what goes out and what the meter then holds; "Met when" is what `Decide`
-- itself says, and a statement of its own for 7 (`Dropped`) and for 12 (`LastAccepted`, by `Excepting`), of which it also tells
-- which exception goes out; what a client may send when is told here apart from `Decide` (`MaySend`). `Answers` alone asks something of the meter: that its own title, which an AARE holds, has its 8 bytes; a longer one would
-- not fit the frame. Proved in proofs/Outcomes and proofs/Framed, by proofs/Leaves.
use Rattle.std.specs.Prelude.{◌≡◌, Bool, true, false, cond, List, [], ◌∷◌, ℕ, ◌-◌, ◌≤◌, length, take, Option, Some, None}
use Rattle.wire.specs.Reading.{part}
use Rattle.model.specs.declared.Client.{Client}
use Rattle.model.specs.declared.CipherClient.{CipherClient}
use Rattle.model.specs.declared.Client.TheVariants.{Verification, Ciphering}
use Rattle.model.specs.Limits.{longest_sent, reply_room}
use Rattle.model.specs.Periods.{listed}
use Rattle.model.specs.State.{Association, none, pending, associated, Line, idle, Body, with_transfer, Model, with_line}
use Rattle.model.specs.Services.{within, get_service, action_service}
use Rattle.model.specs.Objects.{Request, Inquiry, ask, go_on, denied, get_answer, block_refused, action_answer, turned}
use Rattle.model.specs.Calls.{Lent, frame, Outcome, refused, settled, step}
use Rattle.model.specs.Archive.{numbers}
use Rattle.hdlc.specs.declared.Head.{Head}
use Rattle.hdlc.specs.Layout.{ui, frmr, byte, head_of}
use Rattle.hdlc.specs.Addresses.{address_of}
use Rattle.hdlc.specs.Tests.{AllPass, frame_tests, meter_side, client_side}
use Rattle.hdlc.specs.Replies.{reply_frame, ua_frame, dm_frame, apdu_frame}
use Rattle.cosem.specs.declared.Tag.{Tag}
use Rattle.cosem.specs.declared.Tag.TheVariants.{Aarq, Rlrq, PlainRequest, GlobalAction, DedicatedRequest}
use Rattle.cosem.specs.declared.ServiceKind.{ServiceKind}
use Rattle.cosem.specs.declared.ServiceKind.TheVariants.{Get, Action}
use Rattle.cosem.specs.declared.Asked.{Asked}
use Rattle.cosem.specs.declared.Reading.{Reading}
use Rattle.cosem.specs.declared.Reading.TheVariants.{Asks, GoesOn}
use Rattle.cosem.specs.declared.Exception.{Exception}
use Rattle.cosem.specs.declared.Exception.TheVariants.{ServiceNotAllowed, ServiceUnknown}
use Rattle.cosem.specs.Tags.{dedicated_tag, answer_tag, tag_in, is_release, exception_bytes}
use Rattle.cosem.specs.Requests.{read_action, read_service}
use Rattle.acse.specs.Aare.{rejected_aare}
use Rattle.counters.specs.Advance.{next_counter}
use Rattle.counters.specs.Window.{in_window}
use Rattle.envelope.specs.Layout.{sealed_envelope}
use Rattle.envelope.specs.Opening.{opens, opened}
use Rattle.protocol.specs.Clients.{ciphering, peer, counters, associates, lent_keys, dedicated_keys, blocks_in, is_unknown}
use Rattle.protocol.specs.Rulings.{Ruling}
use Rattle.protocol.specs.Decide.{accepted, advanced, is_challenge, tested, secrets_of, p2}

-- what the call comes to
abbrev pub outcome : Lent → Model → Outcome
outcome a m = step p2 (frame a) m

-- the received frame's address bytes and control
abbrev pub head_in : Lent → Head
head_in a = head_of a.received

-- the APDU that a frame carries: what stands after LLC and before the FCS
abbrev pub apdu_of : List ℕ → List ℕ
apdu_of f = part 11 (length f - 3) f

-- that of the received frame, and its tag
abbrev pub apdu_in : Lent → List ℕ
apdu_in a = apdu_of a.received

abbrev pub tag_sent : Lent → Tag
tag_sent a = tag_in (apdu_in a)

-- the received frame's source is the address of this client
abbrev pub SentBy : Client → Lent → Type 0
SentBy c a = byte a.received 4 ≡ address_of c

-- What a frame brings.

-- a frame of the client that passes every test of frames
pub record Heard (a : Lent) (c : Client) : Type 0 where
  pub passes : AllPass meter_side a.received frame_tests
  pub sender : SentBy c a

-- an APDU of the client, on a link that is up
pub record Reaches (a : Lent) (l : Line) (c : Client) : Type 0 where
  pub heard : Heard a c
  pub carries : byte a.received 5 ≡ ui
  pub up : (peer c l).up ≡ true

-- what a client may send: "AARQ (60) in none, RLRQ (62) in the others; when associated GET (V: C0, H: D0) and for H ACTION (D3);
-- while pending CB"; GET and ACTION with their agreed bit
pub data MaySend : Client → Association → Tag → Type 0 where
  aarq : {c : Client} → MaySend c none Aarq
  release_pending : {c : Client} {agreed key client meter : List ℕ} → MaySend c (pending agreed key client meter) Rlrq
  release_associated : {c : Client} {agreed key : List ℕ} → MaySend c (associated agreed key) Rlrq
  get : {agreed key : List ℕ} → within get_service agreed ≡ true → MaySend Verification (associated agreed key) (PlainRequest Get)
  challenge : {c : CipherClient} {agreed key client meter : List ℕ} → MaySend (Ciphering c) (pending agreed key client meter) GlobalAction
  enclosed_get : {c : CipherClient} {agreed key : List ℕ} → within get_service agreed ≡ true → MaySend (Ciphering c) (associated agreed key) (DedicatedRequest Get)
  enclosed_action : {c : CipherClient} {agreed key : List ℕ} → within action_service agreed ≡ true → MaySend (Ciphering c) (associated agreed key) (DedicatedRequest Action)

-- what `Decide` has for a tag that the client may not send changes nothing: it is refused before
abbrev pub Unreached : Type 0
Unreached =
    (l : Line) (c : Client) (h : Head) (t : Tag) (x y : Ruling)
    → (MaySend c (peer c l).association t → ⊥)
    → tested l c h t x ≡ tested l c h t y

-- an APDU with this tag that the client may send
pub record Timely (a : Lent) (l : Line) (c : Client) (t : Tag) : Type 0 where
  pub reaches : Reaches a l c
  pub tag : tag_sent a ≡ t
  pub may : MaySend c (peer c l).association t

-- the APDU is an envelope of the client that opens, with this tag, counter and text: a proof under GUK, a request under the
-- dedicated key
pub data Opens (a : Lent) (l : Line) (c : CipherClient) : Tag → (counter : ℕ) → (text : List ℕ) → Type 0 where
  by_guk : {counter : ℕ} {text : List ℕ} → opened (lent_keys (secrets_of a)) (ciphering c l).peer.title 0xCB (apdu_in a) ≡ opens counter text
      → Opens a l c GlobalAction counter text
  by_key : {k : ServiceKind} {counter : ℕ} {text : List ℕ}
      → opened (dedicated_keys a.ak c l) (ciphering c l).peer.title (dedicated_tag k) (apdu_in a) ≡ opens counter text
      → Opens a l c (DedicatedRequest k) counter text

-- such an envelope, where its tag has passed the tests before
pub record Brings (a : Lent) (l : Line) (c : CipherClient) (t : Tag) (counter : ℕ) (text : List ℕ) : Type 0 where
  pub timely : Timely a l (Ciphering c) t
  pub opening : Opens a l c t counter text

-- a counter of the client that is accepted
abbrev pub Accepted : CipherClient → ℕ → Line → Type 0
Accepted c n l = in_window (counters c l).accepted n ≡ true

-- and one that lies outside the window
abbrev pub Outside : CipherClient → ℕ → Line → Type 0
Outside c n l = in_window (counters c l).accepted n ≡ false

-- a request that is malformed: it cannot be read; or it is a numbered one and "without the bit it stays malformed"
pub data Misshapen (l : Line) (c : Client) : Option Reading → Type 0 where
  unreadable : Misshapen l c None
  without_the_bit : {invoke number : ℕ} → blocks_in c l ≡ false → Misshapen l c (Some (GoesOn invoke number))

-- Exceptions: which goes out, and when. Each test stands here with those before it passed.

pub data Excepted (a : Lent) (l : Line) (c : Client) : Exception → Type 0 where
  -- "a tag other than 60, 62, C0, C1, C3, CB, D0, D1, D3 is refusal 12 with D8 02 02"
  unknown : is_unknown (tag_sent a) ≡ true → Excepted a l c ServiceUnknown
  -- "a tag not permitted here, or GET or ACTION without its agreed bit, D8 01 01"
  not_allowed : is_unknown (tag_sent a) ≡ false → (MaySend c (peer c l).association (tag_sent a) → ⊥) → Excepted a l c ServiceNotAllowed
  -- "then a malformed APDU other than an AARQ, D8 02 02"
  malformed_release : Timely a l c Rlrq → is_release (apdu_in a) ≡ false → Excepted a l c ServiceUnknown
  malformed_get : Timely a l c (PlainRequest Get) → Misshapen l c (read_service Get (apdu_in a)) → Excepted a l c ServiceUnknown

-- by the text of an envelope that opened with this tag
pub data ExceptedInside (l : Line) (c : CipherClient) (text : List ℕ) : Tag → Exception → Type 0 where
  malformed_proof : read_action text ≡ None → ExceptedInside l c text GlobalAction ServiceUnknown
  malformed_request : {k : ServiceKind} → Misshapen l (Ciphering c) (read_service k text) → ExceptedInside l c text (DedicatedRequest k) ServiceUnknown
  -- "then, while pending, an ACTION other than the challenge's, D8 01 01"
  not_the_challenge : (q : Asked) → read_action text ≡ Some (Asks q) → is_challenge c text q ≡ false → ExceptedInside l c text GlobalAction ServiceNotAllowed

-- 12: what goes out, and the meter afterwards: "an opened envelope's counter becomes the last accepted", and nothing else
pub data Excepting (a : Lent) (m : Model) : List ℕ → Model → Type 0 where
  plain : {c : Client} {e : Exception} → Reaches a m.line c → Excepted a m.line c e
      → Excepting a m (apdu_frame (head_in a) (exception_bytes e)) m
  inside : {c : CipherClient} {t : Tag} {n : ℕ} {text : List ℕ} {e : Exception} → Brings a m.line c t n text → Accepted c n m.line → ExceptedInside m.line c text t e
      → Excepting a m (apdu_frame (head_in a) (exception_bytes e)) (with_line (accepted c n m.line) m)

-- The rows.

-- a number, what goes out, and the meter afterwards
abbrev pub replied : ℕ → List ℕ → Model → Outcome
replied n bs after = record { refusal = n; sent = bs; next = after }

-- a number, what goes out, and the line afterwards; the body is as it was, but that the end of H's association forgets its transfer
-- (`settled`)
abbrev pub said : ℕ → List ℕ → Line → Model → Outcome
said n bs l m = record { refusal = n; sent = bs; next = settled (with_line l m) }

-- the answer to a denied request of H of this service, "result code", and whether it forgets H's transfer: a GET does, a read or a
-- numbered request; an ACTION does not
pub data Denial : ServiceKind → List ℕ → (forgets : Bool) → Type 0 where
  read : (invoke code : ℕ) → Denial Get (get_answer invoke (denied code)) true
  block : (invoke number code : ℕ) → Denial Get (block_refused invoke number code) true
  action : (invoke code : ℕ) → Denial Action (action_answer invoke (denied code)) false

abbrev pub after_denial : (forgets : Bool) → Body → Body
after_denial forgets b = cond forgets (with_transfer idle b) b

-- what goes out around an answer to V's request, and around one to a ciphering client's with this tag: in an envelope, of which the
-- meter's counter plus one is the counter
abbrev pub to_v : Lent → List ℕ → List ℕ
to_v a text = apdu_frame (head_in a) text

abbrev pub to_h : Lent → Line → CipherClient → (tag : ℕ) → List ℕ → List ℕ
to_h a l c tag text =
    apdu_frame (head_in a) (sealed_envelope (dedicated_keys a.ak c l) l.title (answer_tag tag) (next_counter (counters c l).sent) text)

-- what a client that ciphers may ask the body: its own requests; and a numbered request, where block transfer was agreed
pub data InquiryOf (c : CipherClient) (l : Line) : Inquiry → Type 0 where
  its : (q : Request) → q.client ≡ Ciphering c → InquiryOf c l (ask q)
  next : (invoke number : ℕ) → blocks_in (Ciphering c) l ≡ true → InquiryOf c l (go_on invoke number)

pub data Row (a : Lent) (m : Model) : Outcome → Type 0 where
  -- 1 to 6: both cells are empty
  refuses : (n : ℕ) → listed n (1 ∷ 2 ∷ 3 ∷ 4 ∷ 5 ∷ 6 ∷ []) ≡ true → Row a m (refused n m)
  -- 7: "that association is dropped", by an envelope that opened and whose counter lies outside the window
  drops : {c : CipherClient} {t : Tag} {n : ℕ} {asked : List ℕ} → Brings a m.line c t n asked → Outside c n m.line
      → Row a m (said 7 [] (associates (Ciphering c) none m.line) m)
  -- 8: "FRMR, code 0100"
  over_length : Row a m (replied 8 (reply_frame (head_in a) frmr ((head_in a).control ∷ 0x00 ∷ 0x04 ∷ [])) m)
  -- 9: "FRMR, code 0001"
  bad_frame : Row a m (replied 9 (reply_frame (head_in a) frmr ((head_in a).control ∷ 0x00 ∷ 0x01 ∷ [])) m)
  -- 10: "DM"
  no_link : Row a m (replied 10 (dm_frame (head_in a)) m)
  -- 11: "AARE: result 1, diagnostic 13"
  not_accepted : (c : Client) → Timely a m.line c Aarq → Row a m (replied 11 (apdu_frame (head_in a) (rejected_aare c)) m)
  -- 12: "exception"
  exception : {bs : List ℕ} {after : Model} → Excepting a m bs after → Row a m (replied 12 bs after)
  -- 13: "result code"; "for H, counters advance; a wrong proof ends the association"
  denial : (invoke code : ℕ) → Timely a m.line Verification (PlainRequest Get) → Row a m (replied 13 (to_v a (get_answer invoke (denied code))) m)
  denial_inside : {c : CipherClient} {text asked : List ℕ} {forgets : Bool} {k : ServiceKind} {n : ℕ} → Brings a m.line c (DedicatedRequest k) n asked → Accepted c n m.line → Denial k text forgets
      → Row a m (record {
        refusal = 13;
        sent = to_h a m.line c (dedicated_tag k) text;
        next = record { line = advanced c (accepted c n m.line); body = after_denial forgets m.body };
      })
  wrong_proof : (invoke : ℕ) {c : CipherClient} {n : ℕ} {asked : List ℕ} → Brings a m.line c GlobalAction n asked → Accepted c n m.line
      → Row a m (said 13
      (apdu_frame (head_in a)
      (sealed_envelope (lent_keys (secrets_of a)) m.line.title 0xCF (next_counter (counters c m.line).sent) (action_answer invoke (denied 250))))
      (advanced c (accepted c n (associates (Ciphering c) none m.line))) m)
  -- "an accepted frame answers 0": UA or an APDU of the line, with the line afterwards; or the body's answer to a request
  links : (after : Line) → Row a m (said 0 (ua_frame (head_in a)) after m)
  tells : (bs : List ℕ) (after : Line) → Row a m (said 0 (apdu_frame (head_in a) bs) after m)
  grants : (q : Request) → Timely a m.line Verification (PlainRequest Get) → q.client ≡ Verification
      → Row a m (record { refusal = 0; sent = to_v a (turned (ask q) m.body).bytes; next = settled (record { line = m.line; body = (turned (ask q) m.body).body }) })
  grants_inside : {c : CipherClient} {k : ServiceKind} {n : ℕ} {asked : List ℕ} (q : Inquiry) → Brings a m.line c (DedicatedRequest k) n asked → Accepted c n m.line → InquiryOf c m.line q
      → Row a m (record {
        refusal = 0;
        sent = to_h a m.line c (dedicated_tag k) (turned q m.body).bytes;
        next = settled (record { line = advanced c (accepted c n m.line); body = (turned q m.body).body });
      })

-- every frame call is one of the rows
abbrev pub RowsHold : Type 0
RowsHold = (a : Lent) (m : Model) → Row a m (outcome a m)

-- The cells, one by one.

-- no number but 0 to 13
abbrev pub FrameNumbers : Type 0
FrameNumbers = (a : Lent) (m : Model) → listed (outcome a m).refusal (numbers (frame a)) ≡ true

-- 1 to 7: nothing goes out
abbrev pub Silent : Type 0
Silent =
    (a : Lent) (m : Model)
    → listed (outcome a m).refusal (1 ∷ 2 ∷ 3 ∷ 4 ∷ 5 ∷ 6 ∷ 7 ∷ []) ≡ true
    → (outcome a m).sent ≡ []

-- 1 to 6, 8 to 11: the meter is unchanged, the table's cell for it being empty
abbrev pub keeping : List ℕ
keeping = 1 ∷ 2 ∷ 3 ∷ 4 ∷ 5 ∷ 6 ∷ 8 ∷ 9 ∷ 10 ∷ 11 ∷ []

abbrev pub Unchanged : Type 0
Unchanged = (a : Lent) (m : Model) → listed (outcome a m).refusal keeping ≡ true → (outcome a m).next ≡ m

-- 7: "that association is dropped", with it H's transfer is forgotten, and nothing else. The frame brought an envelope of this client that
-- opened, so that no forged frame drops an association, and its counter lay outside the window.
pub record Dropping (a : Lent) (m after : Model) : Type 0 where
  pub client : CipherClient
  pub tag : Tag
  pub counter : ℕ
  pub text : List ℕ
  pub sender : SentBy (Ciphering client) a
  pub envelope : Brings a m.line client tag counter text
  pub outside : Outside client counter m.line
  pub drops : after ≡ settled (with_line (associates (Ciphering client) none m.line) m)

abbrev pub Dropped : Type 0
Dropped = (a : Lent) (m : Model) → (outcome a m).refusal ≡ 7 → Dropping a m (outcome a m).next

-- 12: which exception goes out and when, and the last accepted alone changes
abbrev pub LastAccepted : Type 0
LastAccepted = (a : Lent) (m : Model) → (outcome a m).refusal ≡ 12 → Excepting a m (outcome a m).sent (outcome a m).next

-- 12 and 13, to V: no envelope is opened and no counter advances, so the meter is unchanged
abbrev pub PlainUnchanged : Type 0
PlainUnchanged =
    (a : Lent) (m : Model)
    → SentBy Verification a
    → listed (outcome a m).refusal (12 ∷ 13 ∷ []) ≡ true
    → (outcome a m).next ≡ m

-- 13: "for H, counters advance; a wrong proof ends the association"; the last accepted is the counter of the envelope that
-- opened, a request's or a proof's
pub data Advanced (a : Lent) (l : Line) (c : CipherClient) : Line → Type 0 where
  request : {k : ServiceKind} {n : ℕ} {text : List ℕ} → Brings a l c (DedicatedRequest k) n text → Accepted c n l → Advanced a l c (advanced c (accepted c n l))
  proof : {n : ℕ} {text : List ℕ} → Brings a l c GlobalAction n text → Accepted c n l → Advanced a l c (advanced c (accepted c n (associates (Ciphering c) none l)))

abbrev pub DeniedLine : Type 0
DeniedLine = (a : Lent) (m : Model) (c : CipherClient) → SentBy (Ciphering c) a → (outcome a m).refusal ≡ 13 → Advanced a m.line c (outcome a m).next.line

-- a denied GET of H forgets the transfer; nothing else that is denied moves the body
pub data DenialLeaves (a : Lent) (b : Body) : Body → Type 0 where
  forgotten : tag_sent a ≡ DedicatedRequest Get → DenialLeaves a b (with_transfer idle b)
  as_it_was : (tag_sent a ≡ DedicatedRequest Get → ⊥) → DenialLeaves a b b

abbrev pub DeniedBody : Type 0
DeniedBody = (a : Lent) (m : Model) → (outcome a m).refusal ≡ 13 → DenialLeaves a m.body (outcome a m).next.body

-- What goes out.

-- a frame that passes the tests of refusal 4, which are the same for either client, to the sender of the received one, and no
-- longer than "reply room" at least is; with an APDU, it passes every test of the client that it answers
pub record Framed (received sent : List ℕ) : Type 0 where
  pub layout : (c : Client) → AllPass (client_side c) sent (take 8 frame_tests)
  pub carries : (c : Client) → byte received 4 ≡ address_of c → byte sent 5 ≡ ui → AllPass (client_side c) sent frame_tests
  pub destination : byte sent 3 ≡ byte received 4
  pub source : byte sent 4 ≡ byte received 3
  pub fits : length sent ≤ reply_room longest_sent

-- 0 and 8 to 13: such a frame goes out, of a meter whose title has its 8 bytes
abbrev pub Answers : Type 0
Answers =
    (a : Lent) (m : Model)
    → length m.line.title ≡ 8
    → listed (outcome a m).refusal (0 ∷ 8 ∷ 9 ∷ 10 ∷ 11 ∷ 12 ∷ 13 ∷ []) ≡ true
    → Framed a.received (outcome a m).sent
