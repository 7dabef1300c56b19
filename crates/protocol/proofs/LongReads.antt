-- H's long read and the numbered request after it, at the plug: each is read, the body gives a block, and it goes out as the answer to any
-- request in an envelope.
use mathlib.Core.Path.{◌≡◌, refl, sym, ap, ◌∙◌, subst}
use mathlib.Core.Bool.{Bool, true, false, cond, false≢true}
use mathlib.Core.List.{List, ◌∷◌, ◌++◌}
use Prim.Native.Nat.{ℕ, ◌+◌, ◌-◌, ◌*◌, ◌^◌, ◌≤◌, ◌<◌}
use native.Mathlib.Omega.{arith}
use lib.Dec.{eqb}
use lib.ListN.{length, take, drop, get_or, length-drop, take-append-drop}
use lib.Seq.{take_all, drop-cons}
use borrow.Author.Tests.{eqb-true, lt-leb}
use Rattle.std.specs.Prelude.{Option, Some, None}
use Rattle.std.specs.Prelude.{Option, Some, None}
use Rattle.wire.specs.Numbers.{high_first}
use Rattle.wire.specs.Reading.{same_bytes, expected, number_at}
use Rattle.wire.proofs.NumberLaws.{Bytes, length_high}
use Rattle.wire.proofs.ReadingLaws.{chosen, then_at_lem, then_field_lem, ReadNumber, ReadBytes, number_read, expect_read, number_bytes, number_back}
use Rattle.model.specs.declared.Client.TheVariants.{Ciphering}
use Rattle.model.specs.declared.CipherClient.TheVariants.{Han}
use Rattle.model.specs.Limits.{longest_sent, text_room, data_room, block_room}
use Rattle.model.specs.Selecting.{Selection, Picking, Described}
use Rattle.model.specs.State.{Entry, Long, profile, Transfer, idle, running, Line, Body, with_transfer, Model}
use Rattle.model.specs.Soundness.{allowed, sound}
use Rattle.model.specs.Objects.{Inquiry, ask, go_on, Result, denied, Request, rows_data, picked_by, fitting, block, is_last, long_data, Turn, turned}
use Rattle.model.specs.Calls.{Lent, Outcome, kept_by, settled}
use Rattle.model.specs.Archive.{rows_of}
use Rattle.model.specs.Blocks.{block_bytes, answered_by}
use Rattle.model.specs.ByDate.{profile_asked, read_turn, rows_result}
use Rattle.model.proofs.ListLaws.{by_test}
use Rattle.model.proofs.BlockLaws.{answer_bytes, first_bytes, first_block}
use Rattle.model.proofs.TransferLaws.{long_begins, goes_on_lem}
use Rattle.model.proofs.ByDate.{picked_turned}
use Rattle.cosem.specs.declared.Reading.{Reading}
use Rattle.cosem.specs.declared.Reading.TheVariants.{Asks, GoesOn}
use Rattle.cosem.specs.declared.ServiceKind.TheVariants.{Get}
use Rattle.cosem.specs.Requests.{get_normal, get_next, byte, optional_part, last_value, get_with, read_get, read_next, read_gets, read_service}
use Rattle.envelope.proofs.StandsLaws.{expect_back}
use Rattle.protocol.specs.Clients.{selective_in, blocks_in}
use Rattle.protocol.specs.Decide.{request_of}
use Rattle.protocol.specs.Outcomes.{outcome, replied, to_h}
use Rattle.protocol.specs.Lazy.{Asking}
use Rattle.protocol.specs.InBlocks.{SealedRead, get_rows, AsksLong, first_piece, LongBegun, too_long, LongWithoutTheBit, next_request, NoOtherNumbered, piece_after, ends_after, last_after, NextBlockRead}
use Rattle.protocol.proofs.Turns.{turned_fits}
use Rattle.protocol.proofs.Settling.{run_agreed, run_kept}
use Rattle.protocol.proofs.Enclosed.{answer_wrap, answer_line, Inquires, inquires, inquires_next, inquired_decided, inquired_sent, inquired_answer}
use Rattle.protocol.proofs.SecondRow.{answer_opens}
use Rattle.protocol.proofs.RowsAsked.{rows_asked, rows_asked_lem, rows_requested}
use Rattle.protocol.proofs.Forgotten.{ask_kept}

-- What H reads.

-- a request of H that the body answers so, and leaves of itself all but the transfer
module _ (a : Lent) (m : Model) (counter : ℕ) (text : List ℕ) (q : Inquiry) (s : sound m ≡ true) (i : Asking Han a m.line Get counter text) (r : Inquires Han a m Get counter text q) where
  abbrev after : Line
  after = answer_line Han a m Get counter

  pub sealed_read : (n : ℕ) (bs : List ℕ) (t : Transfer) → turned q m.body ≡ record { refusal = n; bytes = bs; body = with_transfer t m.body } → kept_by after t ≡ t
      → SealedRead n a m counter bs t
  sealed_read n bs t e k =
      let answer : outcome a m ≡ record { refusal = n; sent = to_h a m.line Han 0xD0 bs; next = record { line = after; body = with_transfer t m.body } } =
      inquired_answer Han a m Get counter text q s i r
      ∙ ap (λ (x : Turn). record { refusal = x.refusal; sent = to_h a m.line Han 0xD0 x.bytes; next = settled (record { line = after; body = x.body }) }) e
      ∙ ap (λ (u : Transfer). replied n (to_h a m.line Han 0xD0 bs) (record { line = after; body = with_transfer u m.body })) k in
      let fits : length bs ≤ text_room longest_sent = rw (ap (λ (x : Turn). x.bytes) e) at (turned_fits q m.body) in
      record { answer = answer; found = rw answer (answer_opens Han a m.line Get counter text i bs fits) }

-- The long read.

module _ (blocks : Bool) (a : Lent) (m : Model) (s : Selection) (p : Picking) (rs : List Entry) (counter invoke : ℕ) (i : AsksLong blocks a m s p rs counter invoke) where
  abbrev rows_request : Request
  rows_request = profile_asked (selective_in (Ciphering Han) m.line) blocks invoke s

  -- the line hands it to the body
  is_asked : read_service Get (get_rows invoke s) ≡ Some (Asks (rows_asked invoke s))
  is_asked = rows_asked_lem invoke (selective_in (Ciphering Han) m.line) s p i.means

  is_request : request_of m.line (Ciphering Han) (get_rows invoke s) (rows_asked invoke s) ≡ ask rows_request
  is_request =
      ap ask (rows_requested (selective_in (Ciphering Han) m.line) (blocks_in (Ciphering Han) m.line) invoke s)
      ∙ ap (λ (b : Bool). ask (profile_asked (selective_in (Ciphering Han) m.line) b invoke s)) i.agreed

  asks_rows : Inquires Han a m Get counter (get_rows invoke s) (ask rows_request)
  asks_rows = subst (Inquires Han a m Get counter (get_rows invoke s)) is_request (inquires Han a m Get counter (get_rows invoke s) (rows_asked invoke s) is_asked)

  -- which reads the rows
  rows_turned : turned (ask rows_request) m.body ≡ read_turn invoke (rows_result blocks p rs) m.body
  rows_turned = picked_turned (selective_in (Ciphering Han) m.line) blocks invoke s p rs m.body i.means i.gives

-- with block transfer it begins a transfer
module _ (a : Lent) (m : Model) (s : Selection) (p : Picking) (rs : List Entry) (counter invoke : ℕ) (i : AsksLong true a m s p rs counter invoke) where
  abbrev long_request : Request
  long_request = rows_request true a m s p rs counter invoke i

  asks_long : Inquires Han a m Get counter (get_rows invoke s) (ask long_request)
  asks_long = asks_rows true a m s p rs counter invoke i

  begun_turned : turned (ask long_request) m.body ≡ answered_by (block_bytes invoke 0x00 1 (first_piece rs)) (running (profile p) 1) m.body
  begun_turned =
      rows_turned true a m s p rs counter invoke i
      ∙ ap (λ (r : Result). read_turn invoke r m.body) (long_begins (running (profile p) 1) (rows_data rs) refl i.long)
      ∙ ap (λ (bs : List ℕ). answered_by bs (running (profile p) 1) m.body) (first_bytes invoke (rows_data rs) i.long ∙ ap (block_bytes invoke 0x00 1) (first_block (rows_data rs)))

  -- and the line keeps it
  begun_kept : kept_by (answer_line Han a m Get counter) (running (profile p) 1) ≡ running (profile p) 1
  begun_kept =
      subst (λ (t : Transfer). kept_by (answer_line Han a m Get counter) t ≡ t)
      (ap (λ (q : Inquiry). (turned q m.body).body.transfer) (is_request true a m s p rs counter invoke i) ∙ ap (λ (t : Turn). t.body.transfer) begun_turned)
      (ask_kept m i.is_sound (answer_line Han a m Get counter) refl i.asks.sends.may (get_rows invoke s) (rows_asked invoke s) (is_asked true a m s p rs counter invoke i))

  begun_read : SealedRead 0 a m counter (block_bytes invoke 0x00 1 (first_piece rs)) (running (profile p) 1)
  begun_read =
      sealed_read a m counter (get_rows invoke s) (ask long_request) i.is_sound i.asks asks_long 0 (block_bytes invoke 0x00 1 (first_piece rs)) (running (profile p) 1) begun_turned begun_kept

  pub long_begun : LongBegun a m p rs counter invoke
  unfolding same_bytes
  long_begun =
      record {
        read = begun_read;
        first =
            record {
              lent = a;
              request = long_request;
              wrap = answer_wrap Han a m Get counter;
              line = answer_line Han a m Get counter;
              selection = s;
              call = refl;
              decided = inquired_decided Han a m Get counter (get_rows invoke s) (ask long_request) i.is_sound i.asks asks_long;
              client = refl;
              service = refl;
              name = refl;
              picks = ap (λ (d : Described). picked_by d (rows_of m)) i.means ∙ i.gives;
              granted = ap (λ (o : Outcome). o.refusal) begun_read.answer;
              bytes = ap (λ (t : Turn). t.bytes) begun_turned;
              sent = inquired_sent Han a m Get counter (get_rows invoke s) (ask long_request) i.is_sound i.asks asks_long;
            };
      }

-- without it the data are too long
too_long_lem : (t : Transfer) (d : List ℕ) → data_room longest_sent < length d → fitting false t d ≡ denied 250
unfolding fitting
too_long_lem t d h = rw (lt-leb (length d) (data_room longest_sent) h)

pub long_denied : LongWithoutTheBit
unfolding allowed
long_denied a m s p rs counter invoke i =
    let q = rows_request false a m s p rs counter invoke i in
    let e =
    rows_turned false a m s p rs counter invoke i
    ∙ ap (λ (r : Result). read_turn invoke r m.body) (too_long_lem (running (profile p) 1) (rows_data rs) i.long) in
    sealed_read a m counter (get_rows invoke s) (ask q) i.is_sound i.asks (asks_rows false a m s p rs counter invoke i) 13 (too_long invoke) idle e refl

-- The requests after it.

module _ (invoke k : ℕ) (small : k < 256 ^ 4) where
  abbrev request : List ℕ
  request = next_request invoke k

  pub length_next : length request ≡ 7
  length_next = omega (arith, length_high 4 k)

  next_choice : expected request 0 get_next ≡ Some 2
  next_choice = expect_back request 0 get_next (omega (arith, length_next)) refl

  next_number_lem : number_at 4 request 3 ≡ Some (k, 7)
  next_number_lem = number_back request 3 4 k small (omega (arith, length_next)) (take_all 4 (high_first 4 k) (omega (arith, length_high 4 k)))

  pub next_asked_lem : read_service Get request ≡ Some (GoesOn invoke k)
  unfolding read_gets read_next
  next_asked_lem = rw (next_choice, next_number_lem)

-- and nothing else is one
abbrev is_numbered : Option Reading → Bool
is_numbered (Some (Asks q)) = false
is_numbered (Some (GoesOn i n)) = true
is_numbered None = false

normal_none : (s : List ℕ) → is_numbered (read_get s) ≡ false
unfolding read_get
normal_none s = go (optional_part get_normal s)
  where
    go : (p : Option Bool) → is_numbered (get_with s p) ≡ false
    go (Some false) = refl
    go (Some true) = by_test (λ (r : Option Reading). is_numbered r ≡ false) (last_value s 14) (λ _. refl) (λ _. refl)
    go None = refl

module _ (s : List ℕ) (bytes : Bytes s) (invoke number : ℕ) where
  malformed_none : None ≡ Some (GoesOn invoke number) → ⊥
  malformed_none e = false≢true (ap is_numbered e)

  -- the choice, the invoke byte and the number, to the end
  next_whole : {e end : ℕ} → ReadBytes get_next s 0 e → ReadNumber 4 s 3 number end → end ≡ length s → s ≡ next_request (get_or s 2 0) number
  next_whole c r e =
      let n : length s ≡ 7 = omega (arith, r.next) in
      sym (take-append-drop 2 s)
      ∙ ap (λ (xs : List ℕ). xs ++ drop 2 s) c.stands
      ∙ ap (λ (xs : List ℕ). 0xC0 ∷ 0x02 ∷ xs) (drop-cons s 2 0 (omega arith))
      ∙ ap (λ (xs : List ℕ). 0xC0 ∷ 0x02 ∷ get_or s 2 0 ∷ xs) (sym (take_all 4 (drop 3 s) (omega (arith, length-drop 3 s))) ∙ number_bytes 4 s 3 bytes r)

  next_only : read_next s ≡ Some (GoesOn invoke number) → s ≡ next_request invoke number
  unfolding read_next
  next_only e =
      let c = then_at_lem (expected s 0 get_next) _ malformed_none e in
      let f = then_field_lem (number_at 4 s 3) _ malformed_none c.rest in
      let h = chosen (eqb f.next (length s)) f.rest malformed_none in
      let same = h.1 in
      let i : get_or s 2 0 ≡ invoke = cc in
      let v : f.value ≡ number = cc in
      rw i at (next_whole (expect_read s 0 get_next c.found) (number_read s 3 4 (rw v at f.found)) (eqb-true f.next (length s) h.0))

  next_read_only : read_service Get s ≡ Some (GoesOn invoke number) → s ≡ next_request invoke number
  unfolding read_gets
  next_read_only e = next_only (chosen (eqb (byte s 1) 0x02) e (λ f. false≢true (sym (normal_none s) ∙ ap is_numbered f))).1

pub no_other_next : NoOtherNumbered
no_other_next s bytes invoke number e = next_read_only s (λ i. record { fits = bytes i }) invoke number e

-- the block after block k, as the body gives it
next_bytes : (invoke : ℕ) (x : Long) (k : ℕ) (b : Body) → b.transfer ≡ running x k
    → (let d = long_data x b.store in
    turned (go_on invoke k) b
    ≡ record { refusal = 0; bytes = block_bytes invoke (last_after k d) (k + 1) (piece_after k d); body = with_transfer (cond (ends_after k d) idle (running x (k + 1))) b })
unfolding block is_last
next_bytes invoke x k b e =
    let d = long_data x b.store in
    let n : k + 1 - 1 ≡ k = omega arith in
    goes_on_lem invoke k x b e
    ∙ ap (λ (bs : List ℕ). record { refusal = 0; bytes = bs; body = with_transfer (cond (ends_after k d) idle (running x (k + 1))) b })
    (answer_bytes invoke (k + 1) d ∙ ap (λ (j : ℕ). block_bytes invoke (last_after k d) (k + 1) (take (block_room longest_sent) (drop (block_room longest_sent * j) d))) n)

pub next_read : NextBlockRead
next_read a m x k counter invoke i =
    let text = next_request invoke k in
    let d = long_data x m.body.store in
    let r = inquires_next Han a m Get counter text invoke k (next_asked_lem invoke k i.small) (run_agreed m i.is_sound x k i.runs) in
    let t = next_bytes invoke x k m.body i.runs in
    let read =
    sealed_read a m counter text (go_on invoke k) i.is_sound i.asks r 0 (block_bytes invoke (last_after k d) (k + 1) (piece_after k d)) (cond (ends_after k d) idle (running x (k + 1))) t
    (run_kept m i.is_sound x k i.runs (answer_line Han a m Get counter) (ends_after k d) (k + 1) refl) in
    record {
      read = read;
      next =
          record {
            lent = a;
            invoke = invoke;
            wrap = answer_wrap Han a m Get counter;
            line = answer_line Han a m Get counter;
            call = refl;
            decided = inquired_decided Han a m Get counter text (go_on invoke k) i.is_sound i.asks r;
            granted = ap (λ (o : Outcome). o.refusal) read.answer;
            bytes = ap (λ (u : Turn). u.bytes) t;
            sent = inquired_sent Han a m Get counter text (go_on invoke k) i.is_sound i.asks r;
          };
    }
