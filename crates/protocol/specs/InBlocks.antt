-- Answers in blocks at the plug (document 02, Q-4): H's read of the profile whose rows are too long for one frame, the numbered request
-- for the next block, what goes out to each, refusals too, and what H finds in it; what each comes to without the bit; that with it no
-- read is too long; and what frames forget a transfer. Proved in proofs/InBlocks and proofs/Forgotten, and that there are such meters and
-- frames in proofs/BlocksHappen. That the blocks joined are the data is the model's to say (`JoinedAreTheData`, at this protocol in
-- proofs/Claim), of the requests told of here.
use Rattle.std.specs.Prelude.{◌≡◌, Bool, true, false, cond, List, [], ◌∷◌, ℕ, ◌+◌, ◌*◌, ◌^◌, ◌<◌, eqb, leb, length, take, drop, get_or, Option, Some, None}
use Rattle.wire.specs.Numbers.{high_first}
use Rattle.model.specs.declared.Client.TheVariants.{Verification, Ciphering}
use Rattle.model.specs.declared.CipherClient.TheVariants.{Han}
use Rattle.model.specs.declared.Clock.{Clock}
use Rattle.model.specs.Limits.{longest_sent, data_room, block_room}
use Rattle.model.specs.Selecting.{Selection, all, selected, Picking, whole, numbered, dated, picking, described}
use Rattle.model.specs.State.{Entry, Long, profile, Transfer, idle, running, ended, Line, with_transfer, Model, with_line}
use Rattle.model.specs.Soundness.{sound}
use Rattle.model.specs.Objects.{get, Request, ask, rows_data, these, picked, long_data, turned}
use Rattle.model.specs.Calls.{Lent, OwnerCall, frame, owner, Wrap, Said, answer, serve, decided, step}
use Rattle.model.specs.Archive.{rows_of}
use Rattle.model.specs.Blocks.{block_bytes, FirstBlock, NextBlock, Fetches, refusal_bytes}
use Rattle.hdlc.specs.Replies.{apdu_frame}
use Rattle.cosem.specs.declared.Asked.{Asked}
use Rattle.cosem.specs.declared.Reading.TheVariants.{Asks, GoesOn}
use Rattle.cosem.specs.declared.Tag.TheVariants.{PlainRequest}
use Rattle.cosem.specs.declared.ServiceKind.TheVariants.{Get}
use Rattle.cosem.specs.Requests.{read_service}
use Rattle.counters.specs.Advance.{next_counter}
use Rattle.envelope.specs.Opening.{opens, opened}
use Rattle.protocol.specs.Clients.{held, selective_in, blocks_in, is_associated}
use Rattle.protocol.specs.Decide.{accepted, advanced, decide, p2}
use Rattle.protocol.specs.Outcomes.{outcome, head_in, apdu_of, SentBy, MaySend, replied, to_h}
use Rattle.protocol.specs.Lazy.{Enough, request_frame, request_keys, Asking}

-- What H reads.

-- this answer goes out to H, sealed, the call answers this number, 0 for data and 13 for a refusal, and of the meter the counters and the
-- transfer alone move; and what H finds in it: the APDU of the frame opens under H's keys and the meter's title, with the meter's counter
-- plus one, and the text in it is the answer
pub record SealedRead (refusal : ℕ) (a : Lent) (m : Model) (counter : ℕ) (text : List ℕ) (after : Transfer) : Type 0 where
  pub answer :
      outcome a m
      ≡ record {
        refusal = refusal;
        sent = to_h a m.line Han 0xD0 text;
        next = record { line = advanced Han (accepted Han counter m.line); body = with_transfer after m.body };
      }
  pub found :
      opened (request_keys Han a m.line) m.line.title 0xD4 (apdu_of (outcome a m).sent)
      ≡ opens (next_counter m.line.han.counters.sent) text

-- The read that is too long for one frame, and begins a transfer.

-- a selection as a request has it: none, or a selector and its value
abbrev pub selection_bytes : Selection → List ℕ
selection_bytes all = 0x00 ∷ []
selection_bytes (selected selector value) = 0x01 ∷ selector ∷ value

-- a GET of attribute 2 of the profile, with this invoke byte and selection: class 7, 0.0.21.0.6.255
abbrev pub get_rows : (invoke : ℕ) → Selection → List ℕ
get_rows invoke s =
    0xC0 ∷ 0x01 ∷ invoke ∷ 0x00 ∷ 0x07 ∷ 0x00 ∷ 0x00 ∷ 0x15 ∷ 0x00 ∷ 0x06 ∷ 0xFF ∷ 0x02 ∷ selection_bytes s

-- what H asks, and may, block transfer being agreed or not: its selection means this picking, one with a selector only where selective
-- access was agreed; and the picking gives these rows, whose data are too long for one frame
pub record AsksLong (blocks : Bool) (a : Lent) (m : Model) (s : Selection) (p : Picking) (rs : List Entry) (counter invoke : ℕ) : Type 0 where
  pub is_sound : sound m ≡ true
  pub agreed : blocks_in (Ciphering Han) m.line ≡ blocks
  pub means : described (selective_in (Ciphering Han) m.line) s ≡ picking p
  pub gives : picked p (rows_of m) ≡ these rs
  pub long : data_room longest_sent < length (rows_data rs)
  pub asks : Asking Han a m.line Get counter (get_rows invoke s)

-- the data of the first block
abbrev pub first_piece : List Entry → List ℕ
first_piece rs = take (block_room longest_sent) (rows_data rs)

-- it goes out, is not the last, and the transfer of the picking runs after it; as the model has it, so that what is fetched after it joins
pub record LongBegun (a : Lent) (m : Model) (p : Picking) (rs : List Entry) (counter invoke : ℕ) : Type 0 where
  pub read : SealedRead 0 a m counter (block_bytes invoke 0x00 1 (first_piece rs)) (running (profile p) 1)
  pub first : FirstBlock p2 (frame a) m rs (first_piece rs)

-- "a read too long for one frame gives its first block": of all rows, of those from one place to another, of those of a stretch of time
abbrev pub LongReadBegins : Type 0
LongReadBegins =
    (a : Lent) (m : Model) (s : Selection) (p : Picking) (rs : List Entry) (counter invoke : ℕ)
    → AsksLong true a m s p rs counter invoke
    → LongBegun a m p rs counter invoke

-- and there is such a meter and frame
pub record AskedLong (blocks : Bool) (p : Picking) : Type 0 where
  pub lent : Lent
  pub meter : Model
  pub selection : Selection
  pub rows : List Entry
  pub counter : ℕ
  pub invoke : ℕ
  pub asks : AsksLong blocks lent meter selection p rows counter invoke

-- of each kind
pub record EachAskedLong (blocks : Bool) : Type 0 where
  pub of_all : AskedLong blocks whole
  pub of_numbers : AskedLong blocks (numbered 1 0)
  pub from : Clock
  pub to : Clock
  pub of_clocks : AskedLong blocks (dated from to)

abbrev pub LongReadHappens : Type 0
LongReadHappens = EachAskedLong true

-- The requests after it.

-- a numbered request with this invoke byte and the number of the block received last, of four bytes
abbrev pub next_request : (invoke number : ℕ) → List ℕ
next_request invoke number = 0xC0 ∷ 0x02 ∷ invoke ∷ high_first 4 number

-- no other bytes are read as one: none with another choice or a shorter number, and none that go on behind it
abbrev pub NoOtherNumbered : Type 0
NoOtherNumbered =
    (s : List ℕ)
    → ((i : ℕ) → get_or s i 0 < 256)
    → (invoke number : ℕ)
    → read_service Get s ≡ Some (GoesOn invoke number)
    → s ≡ next_request invoke number

-- of these data, block k + 1, and whether any come after it
abbrev pub piece_after : (k : ℕ) → List ℕ → List ℕ
piece_after k d = take (block_room longest_sent) (drop (block_room longest_sent * k) d)

abbrev pub ends_after : (k : ℕ) → List ℕ → Bool
ends_after k d = leb (length d) (block_room longest_sent * (k + 1))

abbrev pub last_after : (k : ℕ) → List ℕ → ℕ
last_after k d = cond (ends_after k d) 0x01 0x00

-- H asks for the next block of the read that its transfer is of, by the number of the block that went out last. On a sound meter H is
-- then associated, with GET and block transfer agreed.
pub record AsksNext (a : Lent) (m : Model) (x : Long) (k counter invoke : ℕ) : Type 0 where
  pub is_sound : sound m ≡ true
  pub runs : m.body.transfer ≡ running x k
  pub small : k < 256 ^ 4
  pub asks : Asking Han a m.line Get counter (next_request invoke k)

-- block k + 1 of the data goes out; after the last the transfer is forgotten, else it runs on
pub record NextRead (a : Lent) (m : Model) (x : Long) (k counter invoke : ℕ) : Type 0 where
  pub read :
      (let d = long_data x m.body.store in
      SealedRead 0 a m counter (block_bytes invoke (last_after k d) (k + 1) (piece_after k d)) (cond (ends_after k d) idle (running x (k + 1))))
  pub next : (let d = long_data x m.body.store in NextBlock p2 (frame a) m (last_after k d) k (piece_after k d))

-- on every sound meter, after every block of every transfer
abbrev pub NextBlockRead : Type 0
NextBlockRead = (a : Lent) (m : Model) (x : Long) (k counter invoke : ℕ) → AsksNext a m x k counter invoke → NextRead a m x k counter invoke

-- So it is not the first block that is read and the second that is pretended: a long read and the request after it, one frame and then
-- the other, bring blocks 1 and 2 of the rows.
pub record SecondBlock (a b : Lent) (m : Model) (p : Picking) (rs : List Entry) (counter next invoke other : ℕ) : Type 0 where
  pub first : LongBegun a m p rs counter invoke
  pub second : NextRead b (outcome a m).next (profile p) 1 next other
  pub same : (outcome a m).next.body.store ≡ m.body.store

abbrev pub SecondBlockRead : Type 0
SecondBlockRead =
    (a b : Lent) (m : Model) (s : Selection) (p : Picking) (rs : List Entry) (counter next invoke other : ℕ)
    → AsksLong true a m s p rs counter invoke
    → Asking Han b (advanced Han (accepted Han counter m.line)) Get next (next_request other 1)
    → SecondBlock a b m p rs counter next invoke other

-- and there are such a meter and two such frames
pub record SecondBlockHappens : Type 0 where
  pub begins : AskedLong true whole
  pub lent : Lent
  pub counter : ℕ
  pub invoke : ℕ
  pub asks : Asking Han lent (advanced Han (accepted Han begins.counter begins.meter.line)) Get counter (next_request invoke 1)

-- "The blocks joined are exactly the data": there are a meter and calls of which the model's `JoinedAreTheData` speaks. They bring three
-- blocks; the second is not the last, and between it and the third there is a call of the owner, accepted.
pub record JoinedHappens : Type 0 where
  pub meter : Model
  pub one : Lent
  pub two : Lent
  pub between : OwnerCall
  pub three : Lent
  pub rows : List Entry
  pub piece : List ℕ
  pub next : List ℕ
  pub rest : List ℕ
  pub first : FirstBlock p2 (frame one) meter rows piece
  pub second : NextBlock p2 (frame two) (outcome one meter).next 0x00 1 next
  pub is_accepted : (step p2 (owner between) (outcome two (outcome one meter).next).next).refusal ≡ 0
  pub fetched : Fetches p2 (outcome one meter).next 1 (frame two ∷ owner between ∷ frame three ∷ []) rest

-- Refusals.

-- H asks by a block's number, block transfer being agreed or not
pub record AsksByNumber (blocks : Bool) (a : Lent) (m : Model) (counter invoke number : ℕ) : Type 0 where
  pub is_sound : sound m ≡ true
  pub agreed : blocks_in (Ciphering Han) m.line ≡ blocks
  pub small : number < 256 ^ 4
  pub asks : Asking Han a m.line Get counter (next_request invoke number)

-- "each a last block with its number, in this order: ended meanwhile, code 15; else none running, code 16; wrong block number, code 19":
-- on every sound meter, for every number; and the transfer is forgotten
pub record NumbersRefused : Type 0 where
  pub meanwhile :
      (a : Lent) (m : Model) (counter invoke number : ℕ)
      → AsksByNumber true a m counter invoke number
      → m.body.transfer ≡ ended
      → SealedRead 13 a m counter (refusal_bytes 15 invoke number) idle
  pub none_runs :
      (a : Lent) (m : Model) (counter invoke number : ℕ)
      → AsksByNumber true a m counter invoke number
      → m.body.transfer ≡ idle
      → SealedRead 13 a m counter (refusal_bytes 16 invoke number) idle
  pub wrong_number :
      (a : Lent) (m : Model) (x : Long) (k counter invoke number : ℕ)
      → AsksByNumber true a m counter invoke number
      → m.body.transfer ≡ running x k
      → eqb number k ≡ false
      → SealedRead 13 a m counter (refusal_bytes 19 invoke number) idle

-- and each happens: a meter with such a transfer, and a frame that asks by this number
pub record AskedByNumber (blocks : Bool) (t : Transfer) (number : ℕ) : Type 0 where
  pub lent : Lent
  pub meter : Model
  pub counter : ℕ
  pub invoke : ℕ
  pub asks : AsksByNumber blocks lent meter counter invoke number
  pub transfer : meter.body.transfer ≡ t

pub record RefusalsHappen : Type 0 where
  pub meanwhile : AskedByNumber true ended 1
  pub none_runs : AskedByNumber true idle 1
  pub wrong_number : AskedByNumber true (running (profile whole) 1) 2

-- Without the bit.

-- "without the bit it stays malformed": D8 02 02, refusal 12. So a numbered request of H where block transfer was not agreed, after
-- which the last accepted counter alone has changed; and every one of V, which is not offered it, after which nothing has.
pub record MalformedWithoutTheBit : Type 0 where
  pub of_h :
      (a : Lent) (m : Model) (counter invoke number : ℕ)
      → AsksByNumber false a m counter invoke number
      → outcome a m ≡ replied 12 (apdu_frame (head_in a) (0xD8 ∷ 0x02 ∷ 0x02 ∷ [])) (with_line (accepted Han counter m.line) m)
  pub of_v :
      (a : Lent) (m : Model) (invoke number : ℕ)
      → sound m ≡ true
      → number < 256 ^ 4
      → Enough a
      → MaySend Verification m.line.verification.association (PlainRequest Get)
      → a.received ≡ request_frame Verification (next_request invoke number)
      → outcome a m ≡ replied 12 (apdu_frame (head_in a) (0xD8 ∷ 0x02 ∷ 0x02 ∷ [])) m

-- and there is such a meter and frame of H
abbrev pub WithoutTheBitHappens : Type 0
WithoutTheBitHappens = AskedByNumber false idle 1

-- "Code 250 for length stays only where the bit wasn't agreed."

-- the answer with it
abbrev pub too_long : (invoke : ℕ) → List ℕ
too_long i = 0xC4 ∷ 0x01 ∷ i ∷ 0x01 ∷ 250 ∷ []

-- it stays there: H's read of rows too long for one frame, whatever its selection, is answered so; the call answers 13, and there is no
-- transfer after it
abbrev pub LongWithoutTheBit : Type 0
LongWithoutTheBit =
    (a : Lent) (m : Model) (s : Selection) (p : Picking) (rs : List Entry) (counter invoke : ℕ)
    → AsksLong false a m s p rs counter invoke
    → SealedRead 13 a m counter (too_long invoke) idle

-- and there are such meters and frames
abbrev pub LongWithoutTheBitHappens : Type 0
LongWithoutTheBitHappens = EachAskedLong false

-- and only there: with the bit no frame that comes to a GET of H is answered so, on a body whose clock and device name have their
-- lengths; and H finds no such answer, with whatever counter and invoke byte
pub record NoneTooLong : Type 0 where
  pub answered :
      (a : Lent) (m : Model) (q : Request) (w : Wrap) (l : Line) (n i : ℕ) (s : Selection)
      → length m.body.clock.bytes ≡ 12
      → length m.body.device ≡ 16
      → blocks_in (Ciphering Han) m.line ≡ true
      → decide m.line a ≡ serve (ask q) w l
      → q.client ≡ Ciphering Han
      → q.service ≡ get n s
      → (turned (ask q) m.body).bytes ≡ too_long i
      → ⊥
  pub found :
      (a : Lent) (m : Model) (counter sent i : ℕ) (text : List ℕ) (q : Asked)
      → sound m ≡ true
      → length m.body.clock.bytes ≡ 12
      → length m.body.device ≡ 16
      → blocks_in (Ciphering Han) m.line ≡ true
      → Asking Han a m.line Get counter text
      → read_service Get text ≡ Some (Asks q)
      → opened (request_keys Han a m.line) m.line.title 0xD4 (apdu_of (outcome a m).sent) ≡ opens sent (too_long i)
      → ⊥

-- What forgets a transfer.

-- H is associated
abbrev pub has_h : Model → Bool
has_h m = is_associated (held Han m.line)

-- "the end of H's association forgets it": a frame after which H is not associated leaves none. After any other nothing is forgotten but
-- by the body's own answer: the call comes to what the line decides and the body answers. So a frame that the line answers alone, and
-- after which H is associated, leaves the transfer as it was; and so does every frame of V.
pub record ForgottenAtTheEnd : Type 0 where
  pub ended : (a : Lent) (m : Model) → sound m ≡ true → has_h (outcome a m).next ≡ false → (outcome a m).next.body.transfer ≡ idle
  pub nothing_else :
      (a : Lent) (m : Model)
      → sound m ≡ true
      → Enough a
      → has_h (outcome a m).next ≡ true
      → outcome a m ≡ decided p2 (decide m.line a) m
  pub stays :
      (a : Lent) (m : Model) (s : Said)
      → sound m ≡ true
      → decide m.line a ≡ answer s
      → has_h (outcome a m).next ≡ true
      → (outcome a m).next.body.transfer ≡ m.body.transfer
  pub of_v : (a : Lent) (m : Model) → sound m ≡ true → SentBy Verification a → (outcome a m).next.body.transfer ≡ m.body.transfer
