-- Answers in blocks at the plug: the statements of specs/InBlocks, proved, but for what forgets a transfer (proofs/Forgotten) and that
-- it happens (proofs/BlocksHappen); by proofs/LongReads.
use mathlib.Core.Path.{◌≡◌, refl, sym, ap, ◌∙◌}
use mathlib.Core.Bool.{Bool, true, false, cond, ◌||◌}
use mathlib.Core.List.{List, [], ◌∷◌}
use Prim.Native.Nat.{ℕ, ◌+◌, ◌^◌, ◌≤◌, ◌<◌}
use native.Mathlib.Omega.{arith}
use lib.Dec.{lit<}
use lib.ListN.{length, get_or, length-take, length-drop}
use Rattle.wire.specs.Numbers.{high_first}
use Rattle.wire.proofs.ReadingLaws.{by_order, fill_here, fill_cut}
use Rattle.model.specs.declared.Client.{Client}
use Rattle.model.specs.declared.Client.TheVariants.{Verification, Ciphering}
use Rattle.model.specs.declared.CipherClient.TheVariants.{Han}
use Rattle.model.specs.Limits.{longest_received}
use Rattle.model.specs.declared.SoundnessTest.TheVariants.{AssociationOnLink}
use Rattle.model.specs.Selecting.{Selection}
use Rattle.model.specs.State.{Association, profile, idle, running, Line, Body, with_transfer, Model, with_line}
use Rattle.model.specs.Soundness.{is_none, on_link, allowed, sound}
use Rattle.model.specs.Objects.{get, Inquiry, ask, go_on, Result, granted, begun, denied, Request, block_answer, Turn, get_answer, turned}
use Rattle.model.specs.Calls.{Lent, frame as frame_call, Outcome, Decision, answer, serve, decided, settles}
use Rattle.model.specs.Blocks.{refusal_bytes, refused_by}
use Rattle.model.proofs.ListLaws.{both}
use Rattle.model.proofs.SoundnessLaws.{sound_passes}
use Rattle.model.proofs.StaySound.{settled_stays}
use Rattle.model.proofs.Transfers.{numbered_refused, read_result, asked_turned}
use Rattle.model.proofs.Joined.{never_too_long}
use Rattle.hdlc.specs.Replies.{apdu_frame}
use Rattle.cosem.specs.declared.Asked.{Asked}
use Rattle.cosem.specs.declared.Tag.TheVariants.{PlainRequest}
use Rattle.cosem.specs.declared.ServiceKind.TheVariants.{Get}
use Rattle.cosem.specs.declared.Exception.TheVariants.{ServiceUnknown}
use Rattle.cosem.specs.Tags.{tag_of, tag_in, exception_bytes}
use Rattle.cosem.specs.Requests.{name_in, service_in, requested}
use Rattle.envelope.specs.Opening.{opens}
use Rattle.protocol.specs.Clients.{selective_in, blocks_in}
use Rattle.protocol.specs.Rulings.{data_while_down, dm, Ruling, says, refused_malformed, decision}
use Rattle.protocol.specs.Decide.{accepted_plain, accepted_ciphered, accepted, advanced, proved, disproved, conversed, carried, secrets_of, ruled, decide, p2}
use Rattle.protocol.specs.Outcomes.{outcome, head_in, apdu_in, MaySend, get as may_get, replied}
use Rattle.protocol.specs.Lazy.{Enough, request_frame, Asking}
use Rattle.protocol.specs.InBlocks.{SealedRead, LongReadBegins, next_request, NoOtherNumbered, NextBlockRead, SecondBlockRead, AsksByNumber, NumbersRefused, MalformedWithoutTheBit, too_long, LongWithoutTheBit, NoneTooLong}
use Rattle.protocol.proofs.KindLaws.{asked_kind, is_read}
use Rattle.protocol.proofs.MayLaws.{may_permitted, may_agreed}
use Rattle.protocol.proofs.Claim.{p2_stays_sound}
use Rattle.protocol.proofs.Leaves as by
use Rattle.protocol.proofs.Turns.{turned_fits}
use Rattle.protocol.proofs.LinkUp.{outcome_ruled, ruled_request, tag_first}
use Rattle.protocol.proofs.Settling.{settled_same, no_blocks_of_v}
use Rattle.protocol.proofs.Enclosed.{asked_ruled, inquires_next, next_counter_lem}
use Rattle.protocol.proofs.SecondRow.{answer_opens}
use Rattle.protocol.proofs.LongReads.{sealed_read, long_begun, long_denied, length_next, next_asked_lem, no_other_next, next_read}

-- The read that begins a transfer, and the requests after it.

pub long_read_begins : LongReadBegins
long_read_begins = long_begun

pub no_other_numbered : NoOtherNumbered
no_other_numbered = no_other_next

pub next_block_read : NextBlockRead
next_block_read = next_read

-- a number that the body refuses
refused_read : (code : ℕ) (a : Lent) (m : Model) (counter invoke number : ℕ) → AsksByNumber true a m counter invoke number
    → turned (go_on invoke number) m.body ≡ refused_by code invoke number m.body → SealedRead 13 a m counter (refusal_bytes code invoke number) idle
unfolding allowed
refused_read code a m counter invoke number i e =
    let text = next_request invoke number in
    let r = inquires_next Han a m Get counter text invoke number (next_asked_lem invoke number i.small) i.agreed in
    sealed_read a m counter text (go_on invoke number) i.is_sound i.asks r 13 (refusal_bytes code invoke number) idle e refl

pub numbers_refused : NumbersRefused
numbers_refused =
    record {
      meanwhile = λ a m counter invoke number i e. refused_read 15 a m counter invoke number i (numbered_refused.meanwhile invoke number m.body e);
      none_runs = λ a m counter invoke number i e. refused_read 16 a m counter invoke number i (numbered_refused.none_runs invoke number m.body e);
      wrong_number = λ a m x k counter invoke number i e f. refused_read 19 a m counter invoke number i (numbered_refused.wrong_number invoke number x k m.body e f);
    }

pub second_block_read : SecondBlockRead
second_block_read a b m s p rs counter next invoke other i j =
    let first = long_begun a m s p rs counter invoke i in
    let e : (outcome a m).next ≡ record { line = advanced Han (accepted Han counter m.line); body = with_transfer (running (profile p) 1) m.body } =
    ap (λ (o : Outcome). o.next) first.read.answer in
    record {
      first = first;
      second =
          next_block_read b (outcome a m).next (profile p) 1 next other
          (record {
            is_sound = p2_stays_sound (frame_call a) m i.is_sound;
            runs = ap (λ (n : Model). n.body.transfer) e;
            small = lit< tt;
            asks = rw e j;
          });
      same = ap (λ (n : Model). n.body.store) e;
    }

-- Without the bit.

next_short : (invoke k : ℕ) → k < 256 ^ 4 → 3 + length (next_request invoke k) ≤ longest_received
unfolding longest_received
next_short invoke k small = omega (arith, length_next invoke k small)

module _ (a : Lent) (m : Model) (invoke number : ℕ) (s : sound m ≡ true) (small : number < 256 ^ 4) where
  abbrev text : List ℕ
  text = next_request invoke number

  malformed_of_h : (counter : ℕ) → blocks_in (Ciphering Han) m.line ≡ false → Asking Han a m.line Get counter text
      → outcome a m ≡ replied 12 (apdu_frame (head_in a) (exception_bytes ServiceUnknown)) (with_line (accepted Han counter m.line) m)
  malformed_of_h counter off i =
      let after = accepted Han counter m.line in
      let r : ruled m.line a ≡ refused_malformed (head_in a) after = asked_ruled Han a m Get counter text s i ∙ rw (next_asked_lem invoke number small, off) in
      outcome_ruled a m i.sends.enough s
      ∙ ap (λ (x : Ruling). settles (decided p2 (decision x) m)) r
      ∙ ap (replied 12 (apdu_frame (head_in a) (exception_bytes ServiceUnknown))) (settled_same after m s refl)

  -- V, whose request is let through to the reader
  module _ (may : MaySend Verification m.line.verification.association (PlainRequest Get)) (received : a.received ≡ request_frame Verification text) where
    up_of_v : m.line.verification.up ≡ true
    up_of_v = go m.line.verification.up (both (on_link m.line.verification) (on_link m.line.han.peer) (sound_passes m s AssociationOnLink)).0
      where
        some : {x : Association} → MaySend Verification x (PlainRequest Get) → is_none x ≡ false
        some (may_get e) = refl

        go : (b : Bool) → b || is_none m.line.verification.association ≡ true → b ≡ true
        go true e = refl
        go false e = sym (some may) ∙ e

    -- what an unagreed bit comes to
    unagreed : (b : Bool) → (b ≡ true → ⊥) → b ≡ false
    unagreed true f = absurd (f refl)
    unagreed false f = refl

    conversed_of_v : conversed m.line (secrets_of a) Verification (head_in a) text (tag_in text) ≡ refused_malformed (head_in a) m.line
    unfolding conversed tag_of
    conversed_of_v =
        rw (
          tag_first 0xC0 (0x02 ∷ invoke ∷ high_first 4 number),
          may_permitted may,
          may_agreed may,
          next_asked_lem invoke number small,
          unagreed (blocks_in Verification m.line) (no_blocks_of_v m s),
        )

    carried_of_v : carried m.line (secrets_of a) Verification (head_in a) text ≡ refused_malformed (head_in a) m.line
    unfolding carried
    carried_of_v =
        ap (λ (b : Bool). cond b (conversed m.line (secrets_of a) Verification (head_in a) text (tag_in text)) (says data_while_down (dm (head_in a)) m.line)) up_of_v
        ∙ conversed_of_v

    malformed_of_v : Enough a → outcome a m ≡ replied 12 (apdu_frame (head_in a) (exception_bytes ServiceUnknown)) m
    malformed_of_v enough =
        let reached = ruled_request m.line a Verification text received (omega (arith, length_next invoke number small)) (next_short invoke number small) in
        outcome_ruled a m enough s
        ∙ ap (λ (x : Ruling). settles (decided p2 (decision x) m)) (reached ∙ carried_of_v)
        ∙ ap (replied 12 (apdu_frame (head_in a) (exception_bytes ServiceUnknown))) (settled_stays m s)

pub malformed_without_the_bit : MalformedWithoutTheBit
malformed_without_the_bit =
    record {
      of_h = λ a m counter invoke number i. malformed_of_h a m invoke number i.is_sound i.small counter i.agreed i.asks;
      of_v = λ a m invoke number s small enough may received. malformed_of_v a m invoke number s small may received enough;
    }

-- Code 250 for length.

-- a request that the line hands to the body is the client's, with what was agreed and a name of six bytes
record Agreed (l : Line) (q : Request) : Type 0 where
  blocks : q.blocks ≡ blocks_in q.client l
  name : length q.name.bytes ≡ 6

length_name : (s : List ℕ) → length (name_in s).bytes ≡ 6
unfolding name_in
length_name s =
    let zeros : List ℕ = 0 ∷ 0 ∷ 0 ∷ 0 ∷ 0 ∷ 0 ∷ [] in
    by_order 11 (length s) (λ h. rw (fill_here s 5 zeros h) (simp (length-take, length-drop) (omega arith))) (λ h. rw (fill_cut s 5 zeros h))

agreed_request : (c : Client) (l : Line) (text : List ℕ) (q : Asked) → Agreed l (requested c (selective_in c l) (blocks_in c l) text q)
unfolding requested
agreed_request c l text q = record { blocks = refl; name = length_name text }

-- by what a frame comes to
abbrev AgreedIn : Line → Inquiry → Type 0
AgreedIn l (ask q) = Agreed l q
AgreedIn l (go_on i n) = Unit {0}

abbrev AgreedBy : Line → Decision → Type 0
AgreedBy l (answer s) = Unit {0}
AgreedBy l (serve q w k) = AgreedIn l q

agreed_leaf : {l : Line} {a : Lent} {r : Ruling} → by.Leaf l a r → AgreedBy l (decision r)
unfolding accepted_plain accepted_ciphered proved disproved
agreed_leaf (by.unheard t n) = tt
agreed_leaf (by.rejects t n first) = tt
agreed_leaf (by.no_link t from n) = tt
agreed_leaf (by.goes_up c from p) = tt
agreed_leaf (by.goes_down c from up) = tt
agreed_leaf (by.excepts t n r x) = tt
agreed_leaf (by.departs c t) = tt
agreed_leaf (by.associates_plain proposed t) = tt
agreed_leaf (by.begins c client key proposed n t) = tt
agreed_leaf (by.releases c t) = tt
agreed_leaf {l} {a} (by.serves q t e) = agreed_request Verification l (apdu_in a) q
agreed_leaf (by.goes_on i n t b) = tt
agreed_leaf (by.unopened t) = tt
agreed_leaf (by.drops c o w) = tt
agreed_leaf (by.excepts_inside t c n o w x) = tt
agreed_leaf (by.proves c invoke n o w) = tt
agreed_leaf (by.disproves c invoke n o w) = tt
agreed_leaf {l} (by.serves_inside c k {text = text} q o w e) = agreed_request (Ciphering c) l text q
agreed_leaf (by.goes_on_inside c k i n o w e b) = tt

agreed_decided : (l : Line) (a : Lent) → AgreedBy l (decide l a)
unfolding decide
agreed_decided l a = agreed_leaf (by.leaf l a)

-- an answer to a read has the request's invoke byte
answer_invoke : (i j : ℕ) (r : Result) → get_answer i r ≡ too_long j → j ≡ i
unfolding block_answer
answer_invoke i j (granted d) e = sym (ap (λ (xs : List ℕ). get_or xs 2 0) e)
answer_invoke i j (begun t d) e = sym (ap (λ (xs : List ℕ). get_or xs 2 0) e)
answer_invoke i j (denied c) e = sym (ap (λ (xs : List ℕ). get_or xs 2 0) e)

none_answered_lem : (l : Line) (b : Body) (q : Request) (n i : ℕ) (s : Selection) → length b.clock.bytes ≡ 12 → length b.device ≡ 16 → blocks_in q.client l ≡ true → Agreed l q → q.service ≡ get n s
    → (turned (ask q) b).bytes ≡ too_long i → ⊥
none_answered_lem l b q n i s clock device bit g e z =
    let same = answer_invoke q.invoke i (read_result q n s b) (sym (ap (λ (t : Turn). t.bytes) (asked_turned q (get n s) b e)) ∙ z) in
    never_too_long q n s b e (g.blocks ∙ bit) (record { name = g.name; clock = clock; device = device }) (z ∙ ap too_long same)

-- two texts that an envelope opens to
same_text : {n k : ℕ} {xs ys : List ℕ} → opens n xs ≡ opens k ys → xs ≡ ys
same_text e = cc

pub long_without_the_bit : LongWithoutTheBit
long_without_the_bit = long_denied

pub none_too_long : NoneTooLong
unfolding requested
none_too_long =
    record {
      answered =
          λ a m q w l n i s clock device bit e c f z.
          none_answered_lem m.line m.body q n i s clock device (rw c bit) (rw e at (agreed_decided m.line a)) f z;
      found =
          λ a m counter sent i text q s clock device bit asks r z.
          let p = requested (Ciphering Han) (selective_in (Ciphering Han) m.line) (blocks_in (Ciphering Han) m.line) text q in
          let g = is_read (service_in text q.wanted) (asked_kind Get text q r) in
          let o = next_counter_lem Han a m Get counter text q s asks r in
          let e = rw o at z in
          let t = answer_opens Han a m.line Get counter text asks (turned (ask p) m.body).bytes (turned_fits (ask p) m.body) in
          none_answered_lem m.line m.body p g.attribute i g.selection clock device bit (agreed_request (Ciphering Han) m.line text q) g.is (same_text (sym t ∙ e));
    }
