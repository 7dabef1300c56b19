-- Every frame call is one of the rows of document 01's table, and the cells follow: specs/Outcomes, proved.
use mathlib.Core.Path.{◌≡◌, refl, sym, ap, subst, ◌∙◌}
use mathlib.Core.Bool.{Bool, true, false, cond, not, ◌||◌, false≢true}
use mathlib.Core.List.{List, [], ◌∷◌}
use Prim.Native.Nat.{ℕ, ◌≤◌, ◌<◌}
use native.Mathlib.Omega.{arith}
use lib.ListN.{length}
use lib.Dec.{eqb, ltb, leb}
use borrow.Author.Tests.{eqb-true, leb-true}
use Rattle.model.specs.declared.CipherClient.{CipherClient}
use Rattle.model.specs.declared.Client.TheVariants.{Verification, Ciphering}
use Rattle.model.specs.declared.CipherClient.TheVariants.{Han}
use Rattle.model.specs.Limits.{longest_sent, reply_room}
use Rattle.model.specs.Names.{every}
use Rattle.model.specs.Periods.{listed}
use Rattle.model.specs.State.{none, Model, with_line}
use Rattle.model.specs.Soundness.{sound}
use Rattle.model.specs.Objects.{Request, Inquiry, ask, go_on, turned}
use Rattle.model.specs.Calls.{Lent, lent_refusal, frame as frame_call, Outcome, refused, serve, decided, settled, settles, act, step}
use Rattle.model.proofs.ListLaws.{both, every_anywhere}
use Rattle.model.proofs.StaySound.{settled_stays}
use Rattle.hdlc.specs.Layout.{frmr}
use Rattle.hdlc.specs.Replies.{reply_frame}
use Rattle.cosem.specs.declared.Tag.{Tag}
use Rattle.cosem.specs.declared.Tag.TheVariants.{Aarq, Rlrq, PlainRequest, GlobalAction, DedicatedRequest, Unknown}
use Rattle.cosem.specs.declared.ServiceKind.{ServiceKind}
use Rattle.cosem.specs.declared.ServiceKind.TheVariants.{Get, Set, Action}
use Rattle.cosem.specs.Tags.{dedicated_tag}
use Rattle.cosem.specs.Requests.{requested}
use Rattle.counters.specs.Advance.{taken}
use Rattle.counters.specs.Window.{accepting}
use Rattle.protocol.specs.Rulings.{Ruling, decision}
use Rattle.protocol.specs.Clients.{associates, selective_in, blocks_in}
use Rattle.protocol.specs.Decide.{wrap, accepted_plain, accepted_ciphered, accepted, advanced, proved, disproved, around, seal, secrets_of, ruled, decide, p2}
use Rattle.protocol.specs.Outcomes.{outcome, head_in, apdu_in, tag_sent, SentBy, Timely, replied, said, Accepted, Brings, read, block, action, InquiryOf, its, next, Row, refuses, drops, over_length, bad_frame, no_link, not_accepted, exception, denial, denial_inside, wrong_proof, links, tells, grants, grants_inside, RowsHold, FrameNumbers, Silent, Unchanged, Dropping, Dropped, Excepting, plain, inside, LastAccepted, PlainUnchanged, Advanced, request, proof, DenialLeaves, forgotten, as_it_was, DeniedBody, DeniedLine}
use Rattle.protocol.proofs.Claim.{p2_numbers_allowed}
use Rattle.protocol.proofs.Numbers.{FrameNumber, four, five, eight, nine, frame_number}
use Rattle.protocol.proofs.MayLaws.{may_unassociated}
use Rattle.protocol.proofs.Settling.{counted_same, settled_same, settled_denied, settled_ended, no_blocks_of_v}
use Rattle.protocol.proofs.KindLaws.{asked_kind, numbered_kind}
use Rattle.protocol.proofs.Leaves as by
use Rattle.protocol.proofs.Turns as by_turn

module _ (a : Lent) (m : Model) where
  row_unheard : {n : ℕ} → FrameNumber n → n < 8 → Row a m (refused n m)
  row_unheard four h = refuses 4 refl
  row_unheard five h = refuses 5 refl
  row_unheard eight h = absurd (omega arith)
  row_unheard nine h = absurd (omega arith)

  row_rejected : {n : ℕ} → FrameNumber n → 8 ≤ n → Row a m (replied n (reply_frame (head_in a) frmr ((head_in a).control ∷ 0x00 ∷ cond (eqb n 8) 0x04 0x01 ∷ [])) m)
  row_rejected four h = absurd (omega arith)
  row_rejected five h = absurd (omega arith)
  row_rejected eight h = over_length
  row_rejected nine h = bad_frame

  -- on a sound meter
  module _ (s : sound m ≡ true) where
    -- the meter after it stands, where settling changes nothing
    row_next : (n : ℕ) (bs : List ℕ) (after : Model) → settled after ≡ after → Row a m (replied n bs after) → Row a m (replied n bs (settled after))
    row_next n bs after e r = subst (λ (x : Model). Row a m (replied n bs x)) (sym e) r

    row_stays : (n : ℕ) (bs : List ℕ) → Row a m (replied n bs m) → Row a m (said n bs m.line m)
    row_stays n bs r = row_next n bs m (settled_stays m s) r

    -- the body's answer, to V and to a client that ciphers
    row_served : (q : Request) → q.client ≡ Verification → Timely a m.line Verification (PlainRequest Get) → by_turn.PlainTurning m.body (turned (ask q) m.body)
        → Row a m (settles (decided p2 (serve (ask q) (wrap a.ak Verification (head_in a) 0xC0) m.line) m))
    unfolding seal around
    row_served q c t (by_turn.plain_grants e) = rw e (grants q t c)
    row_served q c t (by_turn.plain_denies i k e) = rw e (row_stays 13 _ (denial i k t))

    row_inside : (c : CipherClient) (k : ServiceKind) {asked : List ℕ} (q : Inquiry) (n : ℕ) → InquiryOf c m.line q → Brings a m.line c (DedicatedRequest k) n asked → Accepted c n m.line → by_turn.Turning k m.body (turned q m.body)
        → Row a m (settles (decided p2 (serve q (wrap a.ak (Ciphering c) (head_in a) (dedicated_tag k)) (advanced c (accepted c n m.line))) m))
    unfolding seal around taken accepting
    row_inside Han k q n i o w (by_turn.grants e) = rw e (grants_inside q o w i)
    row_inside Han k q n i o w (by_turn.denies {forgets} e b d) =
        rw (e, b) (row_next 13 _ _ (settled_denied forgets (advanced Han (accepted Han n m.line)) m s refl) (denial_inside o w d))

    row_disproved : (c : CipherClient) (invoke n : ℕ) {asked : List ℕ} → Brings a m.line c GlobalAction n asked → Accepted c n m.line
        → Row a m (settles (decided p2 (decision (disproved m.line (secrets_of a) c (head_in a) invoke n)) m))
    unfolding disproved taken accepting
    row_disproved Han invoke n o w = wrong_proof invoke o w

    row_leaf : {r : Ruling} → by.Leaf m.line a r → Row a m (settles (decided p2 (decision r) m))
    unfolding accepted_plain accepted_ciphered proved requested
    row_leaf (by.unheard t h) = row_stays _ _ (row_unheard (frame_number t) h)
    row_leaf (by.rejects t h first) = row_stays _ _ (row_rejected (frame_number t) h)
    row_leaf (by.no_link t from e) = rw e (row_stays 10 _ no_link)
    row_leaf (by.goes_up c from p) = links _
    row_leaf (by.goes_down c from up) = links _
    row_leaf (by.excepts t n r x) = rw n (row_stays 12 _ (exception (plain r x)))
    row_leaf (by.departs c t) = row_stays 11 _ (not_accepted c t)
    row_leaf (by.associates_plain proposed t) = tells _ _
    row_leaf (by.begins c client key proposed n t) = tells _ _
    row_leaf (by.releases c t) = tells _ _
    row_leaf (by.serves q t e) =
        let r = requested Verification (selective_in Verification m.line) (blocks_in Verification m.line) (apdu_in a) q in
        row_served r refl t (by_turn.plain_turning r m.body refl (asked_kind Get (apdu_in a) q e))
    row_leaf (by.goes_on i n t b) = absurd (no_blocks_of_v m s b)
    row_leaf (by.unopened t) = row_stays 6 _ (refuses 6 refl)
    row_leaf (by.drops c o w) = drops o w
    row_leaf (by.excepts_inside t c {n = k} n o w x) = rw n (row_next 12 _ _ (settled_same (accepted c k m.line) m s (counted_same c k m.line)) (exception (inside o w x)))
    row_leaf (by.proves c invoke n o w) = tells _ _
    row_leaf (by.disproves c invoke n o w) = row_disproved c invoke n o w
    row_leaf (by.serves_inside c k {n} {text} q o w e) =
        let r = requested (Ciphering c) (selective_in (Ciphering c) m.line) (blocks_in (Ciphering c) m.line) text q in
        row_inside c k (ask r) n (its r refl) o w (subst (λ (j : ServiceKind). by_turn.Turning j m.body (turned (ask r) m.body)) (asked_kind k text q e) (by_turn.turning r c m.body refl))
    row_leaf (by.goes_on_inside c k {n} {text} i j o w e b) =
        row_inside c k (go_on i j) n (next i j b) o w (subst (λ (x : ServiceKind). by_turn.Turning x m.body (turned (go_on i j) m.body)) (sym (numbered_kind k text i j e)) (by_turn.next_turning i j m.body))

  -- refusals 1 and 2, and then 3, come before the frame
  pub row_lent : (P : Outcome → Type 0) → P (refused 1 m) → P (refused 2 m) → P (refused 3 m) → (lent_refusal a ≡ 0 → sound m ≡ true → P (settles (decided p2 (decision (ruled m.line a)) m))) → P (outcome a m)
  unfolding step act lent_refusal decide
  row_lent P one two three p =
      go (ltb a.room (reply_room longest_sent)) (not (eqb (length a.guk) 16)) (not (eqb (length a.ak) 16)) (not (eqb (length a.challenge) 8)) (sound m) refl p
    where
      go : (w x y z s : Bool) → sound m ≡ s → (◌≡◌ {A = ℕ} (cond w 1 (cond x 2 (cond y 2 (cond z 2 0)))) 0 → sound m ≡ true → P (settles (decided p2 (decision (ruled m.line a)) m)))
          → P (cond (eqb (cond w 1 (cond x 2 (cond y 2 (cond z 2 0)))) 0) (cond s (settles (decided p2 (decision (ruled m.line a)) m)) (refused 3 m)) (refused (cond w 1 (cond x 2 (cond y 2 (cond z 2 0)))) m))
      go true x y z s e k = one
      go false true y z s e k = two
      go false false true z s e k = two
      go false false false true s e k = two
      go false false false false true e k = k refl e
      go false false false false false e k = three

pub rows_hold : RowsHold
rows_hold a m = row_lent a m (Row a m) (refuses 1 refl) (refuses 2 refl) (refuses 3 refl) (λ _ s. row_leaf a m s (by.leaf m.line a))

-- The cells.

pub frame_numbers_lem : FrameNumbers
frame_numbers_lem a m = p2_numbers_allowed (frame_call a) m

-- a listed number is at most the greatest
listed_most : (k n : ℕ) (ns : List ℕ) → every (λ i x. leb x k) 0 ns ≡ true → listed n ns ≡ true → n ≤ k
listed_most k n [] t e = absurd (false≢true e)
listed_most k n (x ∷ xs) t e = go (eqb x n) refl e (λ j. listed_most k n xs (every_anywhere (λ (y : ℕ). leb y k) 0 1 xs ∙ h.1) j)
  where
    h : (leb x k ≡ true) × (every (λ i y. leb y k) 1 xs ≡ true)
    h = both (leb x k) _ t

    go : (b : Bool) → eqb x n ≡ b → b || listed n xs ≡ true → (listed n xs ≡ true → n ≤ k) → n ≤ k
    go true i j rest = omega (arith, eqb-true x n i, leb-true x k h.0)
    go false i j rest = rest j

early : (n : ℕ) → listed n (1 ∷ 2 ∷ 3 ∷ 4 ∷ 5 ∷ 6 ∷ []) ≡ true → 6 < n → ⊥
early n e h = omega (arith, listed_most 6 n (1 ∷ 2 ∷ 3 ∷ 4 ∷ 5 ∷ 6 ∷ []) refl e)

module _ (a : Lent) (m : Model) where
  silent_row : {o : Outcome} → Row a m o → listed o.refusal (1 ∷ 2 ∷ 3 ∷ 4 ∷ 5 ∷ 6 ∷ 7 ∷ []) ≡ true → o.sent ≡ []
  silent_row (refuses n k) e = refl
  silent_row (drops o w) e = refl
  silent_row over_length e = absurd (false≢true e)
  silent_row bad_frame e = absurd (false≢true e)
  silent_row no_link e = absurd (false≢true e)
  silent_row (not_accepted c t) e = absurd (false≢true e)
  silent_row (exception x) e = absurd (false≢true e)
  silent_row (denial i k t) e = absurd (false≢true e)
  silent_row (denial_inside o w d) e = absurd (false≢true e)
  silent_row (wrong_proof invoke o w) e = absurd (false≢true e)
  silent_row (links after) e = absurd (false≢true e)
  silent_row (tells bs after) e = absurd (false≢true e)
  silent_row (grants q t c) e = absurd (false≢true e)
  silent_row (grants_inside q o w c) e = absurd (false≢true e)

  unchanged_row : {o : Outcome} → Row a m o → listed o.refusal (1 ∷ 2 ∷ 3 ∷ 4 ∷ 5 ∷ 6 ∷ 8 ∷ 9 ∷ 10 ∷ 11 ∷ []) ≡ true → o.next ≡ m
  unchanged_row (refuses n k) e = refl
  unchanged_row (drops o w) e = absurd (false≢true e)
  unchanged_row over_length e = refl
  unchanged_row bad_frame e = refl
  unchanged_row no_link e = refl
  unchanged_row (not_accepted c t) e = refl
  unchanged_row (exception x) e = absurd (false≢true e)
  unchanged_row (denial i k t) e = refl
  unchanged_row (denial_inside o w d) e = absurd (false≢true e)
  unchanged_row (wrong_proof invoke o w) e = absurd (false≢true e)
  unchanged_row (links after) e = absurd (false≢true e)
  unchanged_row (tells bs after) e = absurd (false≢true e)
  unchanged_row (grants q t c) e = absurd (false≢true e)
  unchanged_row (grants_inside q o w c) e = absurd (false≢true e)

  dropped_row : {o : Outcome} → Row a m o → o.refusal ≡ 7 → Dropping a m o.next
  dropped_row (refuses n k) e = absurd (early n k (omega arith))
  dropped_row (drops {c} {t} {n} {asked} o w) e = record { client = c; tag = t; counter = n; text = asked; sender = o.timely.reaches.heard.sender; envelope = o; outside = w; drops = refl }
  dropped_row over_length e = absurd (omega arith)
  dropped_row bad_frame e = absurd (omega arith)
  dropped_row no_link e = absurd (omega arith)
  dropped_row (not_accepted c t) e = absurd (omega arith)
  dropped_row (exception x) e = absurd (omega arith)
  dropped_row (denial i k t) e = absurd (omega arith)
  dropped_row (denial_inside o w d) e = absurd (omega arith)
  dropped_row (wrong_proof invoke o w) e = absurd (omega arith)
  dropped_row (links after) e = absurd (omega arith)
  dropped_row (tells bs after) e = absurd (omega arith)
  dropped_row (grants q t c) e = absurd (omega arith)
  dropped_row (grants_inside q o w c) e = absurd (omega arith)

  accepted_row : {o : Outcome} → Row a m o → o.refusal ≡ 12 → Excepting a m o.sent o.next
  accepted_row (refuses n k) e = absurd (early n k (omega arith))
  accepted_row (drops o w) e = absurd (omega arith)
  accepted_row over_length e = absurd (omega arith)
  accepted_row bad_frame e = absurd (omega arith)
  accepted_row no_link e = absurd (omega arith)
  accepted_row (not_accepted c t) e = absurd (omega arith)
  accepted_row (exception x) e = x
  accepted_row (denial i k t) e = absurd (omega arith)
  accepted_row (denial_inside o w d) e = absurd (omega arith)
  accepted_row (wrong_proof invoke o w) e = absurd (omega arith)
  accepted_row (links after) e = absurd (omega arith)
  accepted_row (tells bs after) e = absurd (omega arith)
  accepted_row (grants q t c) e = absurd (omega arith)
  accepted_row (grants_inside q o w c) e = absurd (omega arith)

  -- a frame has one sender
  pub one_sender : {A : Type 0} (c : CipherClient) → SentBy Verification a → SentBy (Ciphering c) a → A
  one_sender Han v h = absurd (omega arith)

  same_sender : (c d : CipherClient) → SentBy (Ciphering c) a → SentBy (Ciphering d) a → d ≡ c
  same_sender Han Han x y = refl

  plain_row : {o : Outcome} → Row a m o → SentBy Verification a → listed o.refusal (12 ∷ 13 ∷ []) ≡ true → o.next ≡ m
  plain_row (refuses n k) v e = refl
  plain_row (drops o w) v e = absurd (false≢true e)
  plain_row over_length v e = refl
  plain_row bad_frame v e = refl
  plain_row no_link v e = refl
  plain_row (not_accepted c t) v e = refl
  plain_row (exception (plain r x)) v e = refl
  plain_row (exception (inside {c} o w x)) v e = one_sender c v o.timely.reaches.heard.sender
  plain_row (denial i k t) v e = refl
  plain_row (denial_inside {c} o w d) v e = one_sender c v o.timely.reaches.heard.sender
  plain_row (wrong_proof invoke {c} o w) v e = one_sender c v o.timely.reaches.heard.sender
  plain_row (links after) v e = absurd (false≢true e)
  plain_row (tells bs after) v e = absurd (false≢true e)
  plain_row (grants q t c) v e = absurd (false≢true e)
  plain_row (grants_inside q o w c) v e = absurd (false≢true e)

  -- no tag but that of H's GET is it
  abbrev is_read_of_h : Tag → Bool
  is_read_of_h Aarq = false
  is_read_of_h Rlrq = false
  is_read_of_h (PlainRequest k) = false
  is_read_of_h GlobalAction = false
  is_read_of_h (DedicatedRequest Get) = true
  is_read_of_h (DedicatedRequest Set) = false
  is_read_of_h (DedicatedRequest Action) = false
  is_read_of_h Unknown = false

  another : {t : Tag} → tag_sent a ≡ t → is_read_of_h t ≡ false → tag_sent a ≡ DedicatedRequest Get → ⊥
  another e f g = false≢true (sym f ∙ sym (ap is_read_of_h e) ∙ ap is_read_of_h g)

  -- a proof comes while there is no transfer, so that the end of the association forgets none
  proof_kept : (c : CipherClient) {n : ℕ} {asked : List ℕ} → sound m ≡ true → Brings a m.line c GlobalAction n asked
      → (settled (with_line (advanced c (accepted c n (associates (Ciphering c) none m.line))) m)).body ≡ m.body
  proof_kept Han {n} s o =
      ap (λ (x : Model). x.body) (settled_ended (advanced Han (accepted Han n (associates (Ciphering Han) none m.line))) m.body refl)
      ∙ sym (ap (λ (x : Model). x.body) (settled_ended m.line m.body (may_unassociated o.timely.may)))
      ∙ ap (λ (x : Model). x.body) (settled_stays m s)

  denied_row : {o : Outcome} → sound m ≡ true → Row a m o → o.refusal ≡ 13 → DenialLeaves a m.body o.next.body
  denied_row s (refuses n k) e = absurd (early n k (omega arith))
  denied_row s (drops o w) e = absurd (omega arith)
  denied_row s over_length e = absurd (omega arith)
  denied_row s bad_frame e = absurd (omega arith)
  denied_row s no_link e = absurd (omega arith)
  denied_row s (not_accepted c t) e = absurd (omega arith)
  denied_row s (exception x) e = absurd (omega arith)
  denied_row s (denial i k t) e = as_it_was (another t.tag refl)
  denied_row s (denial_inside o w (read i k)) e = forgotten o.timely.tag
  denied_row s (denial_inside o w (block i j k)) e = forgotten o.timely.tag
  denied_row s (denial_inside o w (action i k)) e = as_it_was (another o.timely.tag refl)
  denied_row s (wrong_proof invoke {c} o w) e = subst (DenialLeaves a m.body) (sym (proof_kept c s o)) (as_it_was (another o.timely.tag refl))
  denied_row s (links after) e = absurd (omega arith)
  denied_row s (tells bs after) e = absurd (omega arith)
  denied_row s (grants q t c) e = absurd (omega arith)
  denied_row s (grants_inside q o w c) e = absurd (omega arith)

  advanced_row : (c : CipherClient) {o : Outcome} → Row a m o → SentBy (Ciphering c) a → o.refusal ≡ 13 → Advanced a m.line c o.next.line
  advanced_row c (refuses n k) h e = absurd (early n k (omega arith))
  advanced_row c (drops o w) h e = absurd (omega arith)
  advanced_row c over_length h e = absurd (omega arith)
  advanced_row c bad_frame h e = absurd (omega arith)
  advanced_row c no_link h e = absurd (omega arith)
  advanced_row c (not_accepted d t) h e = absurd (omega arith)
  advanced_row c (exception x) h e = absurd (omega arith)
  advanced_row c (denial i k t) h e = one_sender c t.reaches.heard.sender h
  advanced_row c (denial_inside {c = d} {n = n} o w x) h e = subst (λ (y : CipherClient). Advanced a m.line y (advanced d (accepted d n m.line))) (same_sender c d h o.timely.reaches.heard.sender) (request o w)
  advanced_row c (wrong_proof invoke {c = d} {n} o w) h e = subst (λ (y : CipherClient). Advanced a m.line y (advanced d (accepted d n (associates (Ciphering d) none m.line)))) (same_sender c d h o.timely.reaches.heard.sender) (proof o w)
  advanced_row c (links after) h e = absurd (omega arith)
  advanced_row c (tells bs after) h e = absurd (omega arith)
  advanced_row c (grants q t v) h e = absurd (omega arith)
  advanced_row c (grants_inside q o w v) h e = absurd (omega arith)

pub silent : Silent
silent a m = silent_row a m (rows_hold a m)

pub unchanged : Unchanged
unchanged a m = unchanged_row a m (rows_hold a m)

pub dropped : Dropped
dropped a m = dropped_row a m (rows_hold a m)

pub last_accepted : LastAccepted
last_accepted a m = accepted_row a m (rows_hold a m)

pub plain_unchanged : PlainUnchanged
plain_unchanged a m = plain_row a m (rows_hold a m)

pub denied_body : DeniedBody
denied_body a m =
    row_lent a m (λ (o : Outcome). o.refusal ≡ 13 → DenialLeaves a m.body o.next.body) (λ e. absurd (omega arith)) (λ e. absurd (omega arith)) (λ e. absurd (omega arith))
    (λ _ s. denied_row a m s (row_leaf a m s (by.leaf m.line a)))

pub denied_line : DeniedLine
denied_line a m c = advanced_row a m c (rows_hold a m)
