-- Answers in blocks (document 02, Q-4): what is promised of transfers, over any list of calls and any protocol. Blocks are read off the
-- bytes that go out (`block_bytes`), and not by the definitions of specs/Objects that cut the data. Proved in proofs/BlockLaws,
-- proofs/Transfers, proofs/Joined and proofs/Possible.
use Rattle.std.specs.Prelude.{◌≡◌, true, false, ◌⊎◌, List, [], ◌∷◌, ◌++◌, ℕ, ◌+◌, ◌^◌, ◌<◌, ◌≤◌, length, eqb}
use Rattle.wire.specs.Numbers.{high_first, length_field}
use Rattle.model.specs.declared.Client.TheVariants.{Verification, Ciphering}
use Rattle.model.specs.declared.CipherClient.TheVariants.{Han}
use Rattle.model.specs.declared.Name.{Name}
use Rattle.model.specs.declared.Clock.{Clock}
use Rattle.model.specs.declared.Register.{Register}
use Rattle.model.specs.Limits.{longest_sent, text_room, block_room}
use Rattle.model.specs.Names.{same_name, every}
use Rattle.model.specs.Clocks.{valid_clock}
use Rattle.model.specs.Periods.{capture_due}
use Rattle.model.specs.Services.{get_service, selective_access, block_transfer}
use Rattle.model.specs.Selecting.{Selection, all, Picking, whole, numbered, dated}
use Rattle.model.specs.State.{Entry, Long, profile, Transfer, idle, running, ended, runs, Line, Body, with_transfer, with_other_rows, Model}
use Rattle.model.specs.Objects.{profile_named, get, action, Parameter, Request, ask, go_on, these, selected_rows, rows_data, Turn, turned}
use Rattle.model.specs.Soundness.{accepted_registers, accepted_columns, has_agreed, takes_blocks, allowed, rows_allow, sound}
use Rattle.model.specs.Calls.{Lent, Call, frame, owner, OwnerCall, give_registers, set_columns, tick, power_up, Wrap, serve, Outcome, Protocol, step}
use Rattle.model.specs.ByDate.{profile_asked, profile_request}

-- Blocks as they go out.

-- block k of a transfer: its invoke byte, whether it is the last, its number, its data
abbrev pub block_bytes : (invoke last k : ℕ) → List ℕ → List ℕ
block_bytes i last k d = 0xC4 ∷ 0x02 ∷ i ∷ last ∷ high_first 4 k ++ 0x00 ∷ length_field (length d) ++ d

-- a block fits the text that an envelope may hold exactly where it has no more data than a full one: a full block is the largest
pub record FullIsLargest : Type 0 where
  pub fits : (i last k : ℕ) (d : List ℕ) → length d ≤ block_room longest_sent → length (block_bytes i last k d) ≤ text_room longest_sent
  pub largest : (i last k : ℕ) (d : List ℕ) → block_room longest_sent < length d → text_room longest_sent < length (block_bytes i last k d)

-- A transfer, request by request.

-- the read that begins one: a GET of H of attribute 2 of the profile, which means these rows; the call answers 0, and its answer is
-- block 1, not the last, with this piece of the data
pub record FirstBlock (p : Protocol) (c : Call) (m : Model) (rs : List Entry) (piece : List ℕ) : Type 0 where
  pub lent : Lent
  pub request : Request
  pub wrap : Wrap
  pub line : Line
  pub selection : Selection
  pub call : c ≡ frame lent
  pub decided : p.decide m.line lent ≡ serve (ask request) wrap line
  pub client : request.client ≡ Ciphering Han
  pub service : request.service ≡ get 2 selection
  pub name : same_name profile_named request.name ≡ true
  pub picks : selected_rows request.selective selection m.body.store.rows ≡ these rs
  pub granted : (step p c m).refusal ≡ 0
  pub bytes : (turned (ask request) m.body).bytes ≡ block_bytes request.invoke 0x00 1 piece
  pub sent : (step p c m).sent ≡ p.seal line wrap (turned (ask request) m.body).bytes

-- a numbered request with the number of the block received last, k: the call answers 0, and its answer is block k + 1, the last or
-- not, with this piece of the data
pub record NextBlock (p : Protocol) (c : Call) (m : Model) (last k : ℕ) (piece : List ℕ) : Type 0 where
  pub lent : Lent
  pub invoke : ℕ
  pub wrap : Wrap
  pub line : Line
  pub call : c ≡ frame lent
  pub decided : p.decide m.line lent ≡ serve (go_on invoke k) wrap line
  pub granted : (step p c m).refusal ≡ 0
  pub bytes : (turned (go_on invoke k) m.body).bytes ≡ block_bytes invoke last (k + 1) piece
  pub sent : (step p c m).sent ≡ p.seal line wrap (turned (go_on invoke k) m.body).bytes

-- "all but the last are full"
pub record AllButLastFull (p : Protocol) : Type 0 where
  pub first : (c : Call) (m : Model) (rs : List Entry) (piece : List ℕ) → FirstBlock p c m rs piece → length piece ≡ block_room longest_sent
  pub next : (c : Call) (m : Model) (k : ℕ) (piece : List ℕ) → NextBlock p c m 0x00 k piece → length piece ≡ block_room longest_sent

-- a list of calls that fetches the rest of a transfer after block k, up to its last block, and what it fetches: numbered requests, and
-- between them any calls that leave the transfer as it is
pub data Fetches (p : Protocol) : Model → (k : ℕ) → List Call → List ℕ → Type 0 where
  last : {m : Model} {k : ℕ} {c : Call} {piece : List ℕ} → NextBlock p c m 0x01 k piece → Fetches p m k (c ∷ []) piece
  more :
      {m : Model} {k : ℕ} {c : Call} {cs : List Call} {piece rest : List ℕ}
      → NextBlock p c m 0x00 k piece
      → Fetches p (step p c m).next (k + 1) cs rest
      → Fetches p m k (c ∷ cs) (piece ++ rest)
  between :
      {m : Model} {k : ℕ} {c : Call} {cs : List Call} {rest : List ℕ}
      → (step p c m).next.body.transfer ≡ m.body.transfer
      → Fetches p (step p c m).next k cs rest
      → Fetches p m k (c ∷ cs) rest

-- "The blocks joined are exactly the data that one large frame would have held at the first request."
abbrev pub JoinedAreTheData : Protocol → Type 0
JoinedAreTheData p =
    (c : Call) (cs : List Call) (m : Model) (rs : List Entry) (first rest : List ℕ)
    → FirstBlock p c m rs first
    → Fetches p (step p c m).next 1 cs rest
    → first ++ rest ≡ rows_data rs

-- No read is too long.

-- the lengths that a meter of the code has
pub record Measured (n : Name) (b : Body) : Type 0 where
  pub name : length n.bytes ≡ 6
  pub clock : length b.clock.bytes ≡ 12
  pub device : length b.device ≡ 16

-- "code 250 for length stays only where the bit wasn't agreed": with it no read is answered by 250
abbrev pub NeverTooLong : Type 0
NeverTooLong =
    (q : Request) (a : ℕ) (s : Selection) (b : Body)
    → q.service ≡ get a s
    → q.blocks ≡ true
    → Measured q.name b
    → (turned (ask q) b).bytes ≡ 0xC4 ∷ 0x01 ∷ q.invoke ∷ 0x01 ∷ 250 ∷ []
    → ⊥

-- Refusals of a numbered request, "each a last block with its number, in this order: ended meanwhile, code 15; else none running, code
-- 16; wrong block number, code 19"; each forgets the transfer.
abbrev pub refusal_bytes : (code invoke number : ℕ) → List ℕ
refusal_bytes code i n = 0xC4 ∷ 0x02 ∷ i ∷ 0x01 ∷ high_first 4 n ++ 0x01 ∷ code ∷ []

abbrev pub refused_by : (code invoke number : ℕ) → Body → Turn
refused_by code i n b = record { refusal = 13; bytes = refusal_bytes code i n; body = with_transfer idle b }

pub record NumberedRefused : Type 0 where
  pub meanwhile : (i n : ℕ) (b : Body) → b.transfer ≡ ended → turned (go_on i n) b ≡ refused_by 15 i n b
  pub none_runs : (i n : ℕ) (b : Body) → b.transfer ≡ idle → turned (go_on i n) b ≡ refused_by 16 i n b
  pub wrong_number : (i n : ℕ) (x : Long) (k : ℕ) (b : Body) → b.transfer ≡ running x k → eqb n k ≡ false → turned (go_on i n) b ≡ refused_by 19 i n b

-- What ends a transfer, and what forgets it.

-- "A capture, profile reset, column change or new registers ends the transfer": the owner's calls among these, accepted
pub data BringsOtherRows (m : Model) : OwnerCall → Type 0 where
  captures : (t : Clock) → valid_clock t ≡ true → capture_due m.body.period t ≡ true → BringsOtherRows m (tick t)
  columns : (cs : List Name) → accepted_columns m.body.store.registers cs ≡ true → BringsOtherRows m (set_columns cs)
  registers : (rs : List Register) → accepted_registers rs ≡ true → BringsOtherRows m (give_registers rs)

pub record EndsTransfers (p : Protocol) : Type 0 where
  pub owner : (o : OwnerCall) (m : Model) → sound m ≡ true → runs m.body.transfer ≡ true → BringsOtherRows m o → (step p (owner o) m).next.body.transfer ≡ ended
  pub reset :
      (q : Request) (k : ℕ) (v : Parameter) (b : Body)
      → q.service ≡ action k v
      → same_name profile_named q.name ≡ true
      → (turned (ask q) b).refusal ≡ 0
      → runs b.transfer ≡ true
      → (turned (ask q) b).body.transfer ≡ ended

-- a read that begins the next transfer: it is granted, and what it gives is block 1, not the last
pub record BeginsAnother (q : Request) (t : Turn) : Type 0 where
  pub read : Long
  pub piece : List ℕ
  pub granted : t.refusal ≡ 0
  pub bytes : t.bytes ≡ block_bytes q.invoke 0x00 1 piece
  pub transfer : t.body.transfer ≡ running read 1

-- "the last block, a wrong number, H's next read, denied or not, or the end of H's association forgets it, ended or not"; of a wrong
-- number it stands above, and a read may begin the next one
pub record ForgetsTransfers (p : Protocol) : Type 0 where
  pub last_block : (c : Call) (m : Model) (k : ℕ) (piece : List ℕ) → NextBlock p c m 0x01 k piece → (step p c m).next.body.transfer ≡ idle
  pub read :
      (q : Request) (a : ℕ) (s : Selection) (b : Body)
      → q.client ≡ Ciphering Han
      → q.service ≡ get a s
      → ((turned (ask q) b).body.transfer ≡ idle) ⊎ BeginsAnother q (turned (ask q) b)
  pub association : (a : Lent) (m : Model) → sound m ≡ true → takes_blocks (step p (frame a) m).next.line ≡ false → (step p (frame a) m).next.body.transfer ≡ idle
  pub power_up : (m : Model) → sound m ≡ true → (step p (owner power_up) m).next.body.transfer ≡ idle

-- "A capture, profile reset, column change or new registers ends the transfer", and nothing else does. Of the owner's calls all others
-- but power-up leave it as it was: one that sets a value, the period or the P5 flag, a tick that is not due, a call that is refused.
-- Where none runs, the calls that would end one leave it as it was, too: what was "ended meanwhile" stays so. Whatever V asks leaves it,
-- and so does an ACTION unless it is the profile's reset, granted: one on another name, one that is denied. A meter that is not sound
-- keeps it over every call.
pub record LeavesTransfers (p : Protocol) : Type 0 where
  pub owner :
      (o : OwnerCall) (m : Model)
      → (o ≡ power_up → ⊥)
      → ((runs m.body.transfer ≡ true) × BringsOtherRows m o → ⊥)
      → (step p (owner o) m).next.body.transfer ≡ m.body.transfer
  pub verification : (q : Request) (b : Body) → q.client ≡ Verification → (turned (ask q) b).body.transfer ≡ b.transfer
  pub action :
      (q : Request) (k : ℕ) (v : Parameter) (b : Body)
      → q.service ≡ action k v
      → ((runs b.transfer ≡ true) × (same_name profile_named q.name ≡ true) × ((turned (ask q) b).refusal ≡ 0) → ⊥)
      → (turned (ask q) b).body.transfer ≡ b.transfer
  pub unsound : (c : Call) (m : Model) → sound m ≡ false → (step p c m).next.body.transfer ≡ m.body.transfer

-- an answer with these bytes; of the body the transfer alone moves
abbrev pub answered_by : List ℕ → Transfer → Body → Turn
answered_by bs t b = record { refusal = 0; bytes = bs; body = with_transfer t b }

-- Every call.

-- rows and columns, from which a transfer reads
abbrev pub table_of : Body → List Entry × List Name
table_of b = (b.store.rows, b.store.columns)

-- what a call leaves of a transfer: none runs; it is as it was, and so are rows and columns; one more block went out of it, not the
-- last, to a request with the number of the one before; or one began, in a read of the profile that was granted
pub data LeftOfTransfer (p : Protocol) (c : Call) (m : Model) (o : Outcome) : Type 0 where
  stopped : runs o.next.body.transfer ≡ false → LeftOfTransfer p c m o
  unmoved : o.next.body.transfer ≡ m.body.transfer → table_of o.next.body ≡ table_of m.body → LeftOfTransfer p c m o
  moved :
      (x : Long) (k : ℕ) (piece : List ℕ)
      → m.body.transfer ≡ running x k
      → o.next.body.transfer ≡ running x (k + 1)
      → table_of o.next.body ≡ table_of m.body
      → NextBlock p c m 0x00 k piece
      → LeftOfTransfer p c m o
  began : (x : Long) (rs : List Entry) (piece : List ℕ) → o.next.body.transfer ≡ running x 1 → FirstBlock p c m rs piece → LeftOfTransfer p c m o

abbrev pub TransfersAreReads : Protocol → Type 0
TransfersAreReads p = (c : Call) (m : Model) → LeftOfTransfer p c m (step p c m)

-- What passes the test of soundness.

-- the numbers that a picking of the code has: rows counted in four bytes, clocks of twelve
pub data MeasuredPicking : Picking → Type 0 where
  of_all : MeasuredPicking whole
  of_numbers : {from to : ℕ} → from < 256 ^ 4 → to < 256 ^ 4 → MeasuredPicking (numbered from to)
  of_clocks : {from to : Clock} → length from.bytes ≡ 12 → length to.bytes ≡ 12 → MeasuredPicking (dated from to)

-- H's GET of attribute 2 of the profile, with what was agreed on the line
abbrev pub profile_asked_on : Line → (invoke : ℕ) → Selection → Request
profile_asked_on l i s = profile_asked (has_agreed selective_access l) (has_agreed block_transfer l) i s

-- a body after H's read of the profile, and after the numbered requests 1 to k - 1 besides, each of them granted
pub data AfterBlock (l : Line) (b : Body) : (k : ℕ) → Body → Type 0 where
  first :
      (i : ℕ) (s : Selection)
      → has_agreed get_service l ≡ true
      → (turned (ask (profile_asked_on l i s)) b).refusal ≡ 0
      → AfterBlock l b 1 (turned (ask (profile_asked_on l i s)) b).body
  next : (i k : ℕ) {c : Body} → AfterBlock l b k c → (turned (go_on i k) c).refusal ≡ 0 → AfterBlock l b (k + 1) (turned (go_on i k) c).body

-- the owner gives a meter these registers, then these columns
abbrev pub set_up : Protocol → List Register → List Name → Model → Model
set_up p rs cs m = (step p (owner (set_columns cs)) (step p (owner (give_registers rs)) m).next).next

-- a sound meter with the same line, on which a transfer runs, and which is this one once the rows are others; where this one has no rows,
-- the owner's calls lead to it
pub record EndedFrom (m : Model) : Type 0 where
  pub before : Model
  pub is_sound : sound before ≡ true
  pub line : before.line ≡ m.line
  pub running : runs before.body.transfer ≡ true
  pub becomes : with_other_rows m.body.store before.body ≡ m.body
  pub emptied : m.body.store.rows ≡ [] → (p : Protocol) → set_up p m.body.store.registers m.body.store.columns before ≡ m

-- "A transfer that no calls could have left, with H's association and the rows as they stand, makes a state unsound." The other way
-- round, one that passes the test is one that calls leave. One that runs is left by a read of the same rows and the requests after it, on
-- a body that has none. One that was ended is left by the owner's calls on a meter on which one ran, where there are no rows. Where there
-- are, no more is claimed than that the rows are others: their record numbers and clocks need not be ones that captures give.
pub record PossibleAreLeft : Type 0 where
  pub running :
      (l : Line) (b : Body) (p : Picking) (k : ℕ)
      → allowed l (running (profile p) k) ≡ true
      → rows_allow b.store (running (profile p) k) ≡ true
      → MeasuredPicking p
      → AfterBlock l (with_transfer idle b) k (with_transfer (running (profile p) k) b)
  pub ended : (m : Model) → sound m ≡ true → m.body.transfer ≡ ended → EndedFrom m

-- All rows of sixteen columns, fetched from a body by a GET and two numbered requests: three blocks, the first two of them full.
pub record ThreeBlocks (b : Body) (i j k : ℕ) : Type 0 where
  pub one : List ℕ
  pub two : List ℕ
  pub three : List ℕ
  pub one_full : length one ≡ block_room longest_sent
  pub two_full : length two ≡ block_room longest_sent
  pub first : turned (ask (profile_request true i all)) b ≡ answered_by (block_bytes i 0x00 1 one) (running (profile whole) 1) b
  pub second : turned (go_on j 1) (with_transfer (running (profile whole) 1) b) ≡ answered_by (block_bytes j 0x00 2 two) (running (profile whole) 2) b
  pub third : turned (go_on k 2) (with_transfer (running (profile whole) 2) b) ≡ answered_by (block_bytes k 0x01 3 three) idle b
  pub joined : one ++ (two ++ three) ≡ rows_data b.store.rows

abbrev pub SixteenColumns : Type 0
SixteenColumns =
    (b : Body) (i j k : ℕ)
    → length b.store.rows ≡ 15
    → every (λ n r. eqb (length r.clock.bytes) 12) 0 b.store.rows ≡ true
    → every (λ n r. eqb (length r.cells) 16) 0 b.store.rows ≡ true
    → ThreeBlocks b i j k
