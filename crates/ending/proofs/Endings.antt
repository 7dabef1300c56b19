-- How a call ends that the line answers: from what went out, the number and the line afterwards, to what a ruling of the protocol
-- promises.
use mathlib.Core.Path.{◌≡◌, refl, sym, ap, subst, ◌∙◌}
use mathlib.Core.Bool.{Bool, true, false, false≢true}
use mathlib.Core.List.{List, [], ◌++◌}
use mathlib.Core.Logic.{⊎_elim}
use Prim.Native.Nat.{ℕ, ◌≤◌}
use lib.ListN.{length}
use Rattle.model.specs.Periods.{listed}
use Rattle.model.specs.declared.Client.{Client}
use Rattle.model.specs.declared.CipherClient.{CipherClient}
use Rattle.model.specs.declared.Client.TheVariants.{Verification, Ciphering}
use Rattle.model.specs.declared.Counters.{Counters}
use Rattle.model.specs.State.{Association, none, pending, associated, Peer, Line}
use Rattle.model.specs.Soundness.{is_none}
use Rattle.wire.specs.Wrote.{Wrote}
use Rattle.wire_write.proofs.WroteLaws.{past}
use Rattle.hdlc.specs.Replies.{Sent}
use Rattle.acse.specs.Clients.{ciphers}
use Rattle.line.specs.declared.LineState.{LineState}
use Rattle.line.specs.View.{line_of}
use Rattle.body.specs.declared.BodyState.{BodyState}
use Rattle.body.specs.View.{body_of}
use Rattle.meter.specs.declared.Meter.{Meter}
use Rattle.meter.specs.View.{view}
use Rattle.line.specs.View.{cipher_of}
use Rattle.line.specs.Left.{NoChallenges, Wiped}
use Rattle.protocol.specs.Clients.{peer, with_peer, associates, counters, with_counters, held, is_pending, is_associated}
use Rattle.protocol.proofs.LineLaws.{own_part, other_part, counted_part}
use Rattle.protocol.specs.Rulings.{Test, refusal_of, Reply, bytes_of, Ruling, says}
use Rattle.protocol.specs.Outcomes.{keeping}
use Rattle.counters.specs.Window.{accepting}
use Rattle.protocol.specs.Decide.{accepted}
use Rattle.ending.specs.declared.Received.{Received}
use Rattle.ending.specs.Handed.{Wipes, LeavesNothing}
use Rattle.ending.specs.Inner.{received, SameAssociations, Follows}

-- What went out.

-- a frame that covers what was written before it
pub sent_over : {l m o xs bs : List ℕ} {a b k : ℕ} → Wrote l a m b xs → Sent bs m o k → b ≤ length bs → Sent bs l o k
sent_over {l} {m} {o} {xs} {bs} w s h = record { holds = s.holds ∙ ap (λ (t : List ℕ). bs ++ t) (past w (length bs) h); count = s.count }

pub nothing_sent : (l : List ℕ) → Sent [] l l 0
nothing_sent l = record { holds = refl; count = refl }

-- Associations that end.

-- a client that had an association and has the same one now has not lost it
no_end : {b : Bool} {P : Type 0} → b ≡ false → b ≡ true → P
no_end h q = absurd (false≢true (sym h ∙ q))

-- no association is both pending and associated
not_both : (x : Association) {P : Type 0} → is_pending x ≡ true → is_associated x ≡ true → P
not_both none h q = absurd (false≢true h)
not_both (pending a k c s) h q = absurd (false≢true q)
not_both (associated a k) h q = absurd (false≢true h)

-- one client's part is replaced: an association that this client, or another one, has no more
module _ (next : LineState) (d : Client) (p : Peer) (l : Line) where
  ended_one : (c : Client) → (c ≡ d → is_none p.association ≡ true → Wiped c next) → is_none (peer c l).association ≡ false → is_none (peer c (with_peer d p l)).association ≡ true → Wiped c next
  ended_one c w h q =
      ⊎_elim (λ e. w e (ap (λ (x : Peer). is_none x.association) (sym (own_part d p l)) ∙ rw e at q))
      (λ e. no_end h (ap (λ (x : Peer). is_none x.association) (sym e) ∙ q)) (other_part c d p l)

  proved_one : (c : CipherClient) → (Ciphering c ≡ d → is_associated p.association ≡ true → NoChallenges (cipher_of c next)) → is_pending (held c l) ≡ true → is_associated (held c (with_peer d p l)) ≡ true → NoChallenges (cipher_of c next)
  proved_one c w h q =
      ⊎_elim (λ e. w e (ap (λ (x : Peer). is_associated x.association) (sym (own_part d p l)) ∙ subst (λ (y : Client). is_associated (peer y (with_peer d p l)).association ≡ true) e q))
      (λ e. not_both (held c l) h (ap (λ (x : Peer). is_associated x.association) (sym e) ∙ q)) (other_part (Ciphering c) d p l)

module _ (next : LineState) where
  -- one client's association ends
  pub ends_one : (d : Client) (p : Peer) (l : Line) → Wiped d next → Wipes l (with_peer d p l) next
  ends_one d p l w =
      record {
        ended = λ c h q. ended_one next d p l c (λ e _. subst (λ (y : Client). Wiped y next) (sym e) w) h q;
        proven = λ c h q. proved_one next d p l c (λ e _. (subst (λ (y : Client). Wiped y next) (sym e) w).challenges) h q;
      }

  -- one client has an association; where it is associated, nothing is left of its challenges
  stands_one : (d : Client) (x : Association) (l : Line) → is_none x ≡ false
      → ((c : CipherClient) → Ciphering c ≡ d → is_associated x ≡ true → NoChallenges (cipher_of c next)) → Wipes l (associates d x l) next
  stands_one d x l e a =
      record { ended = λ c h q. ended_one next d _ l c (λ _ g. no_end e g) h q; proven = λ c h q. proved_one next d _ l c (a c) h q }

  pub stands_plain : (x : Association) (l : Line) → is_none x ≡ false → Wipes l (associates Verification x l) next
  stands_plain x l e = stands_one Verification x l e (λ c q. absurd (false≢true (sym (ap ciphers q))))

  pub stands_ciphered : (d : CipherClient) (x : Association) (l : Line) → is_none x ≡ false → (is_associated x ≡ true → NoChallenges (cipher_of d next)) → Wipes l (associates (Ciphering d) x l) next
  stands_ciphered d x l e a = stands_one (Ciphering d) x l e (λ c q g. (let z : c ≡ d = cc in rw z (a g)))

  -- counters are no part of it
  pub counted : (d : CipherClient) (n : Counters) (l : Line) {m : Line} → Wipes m l next → Wipes m (with_counters d n l) next
  counted d n l w =
      record {
        ended = λ c h q. w.ended c h (ap (λ (x : Peer). is_none x.association) (sym (counted_part d n l c)) ∙ q);
        proven = λ c h q. w.proven c h (ap (λ (x : Peer). is_associated x.association) (sym (counted_part d n l (Ciphering c))) ∙ q);
      }

-- nor is the last accepted counter
pub counted_same : (c : CipherClient) (n : Counters) (l : Line) → SameAssociations l (with_counters c n l)
counted_same c n l d = ap (λ (x : Peer). x.association) (counted_part c n l d)

pub accepted_same : (c : CipherClient) (counter : ℕ) (l : Line) {n : Line} → n ≡ accepted c counter l → SameAssociations l n
accepted_same c counter l e d = ap (λ (y : Line). (peer d y).association) e ∙ counted_same c (accepting (counters c l) counter) l d

pub same_wipes : {l n : Line} (next : LineState) → SameAssociations l n → Wipes l n next
same_wipes {l} next k =
    record {
      ended = λ c h q. no_end h (sym (ap is_none (k c)) ∙ q);
      proven = λ c h q. not_both (held c l) h (sym (ap is_associated (k (Ciphering c))) ∙ q);
    }

-- by the line of the code
module _ (m : Meter) (next : LineState) {becomes : Line} (v : line_of next ≡ becomes) where
  pub leaves : (b : BodyState) → Wipes (line_of m.line) becomes next → LeavesNothing m (record { line = next; body = b })
  leaves b w =
      record {
        ended = λ c h q. w.ended c h (ap (λ (y : Line). is_none (peer c y).association) (sym v) ∙ q);
        proven = λ c h q. w.proven c h (ap (λ (y : Line). is_associated (held c y)) (sym v) ∙ q);
      }

pub kept_leaves : (m : Meter) → LeavesNothing m m
kept_leaves m = record { ended = λ c h q. no_end h q; proven = λ c h q. not_both (held c (line_of m.line)) h q }

-- Rulings.

module _ (t : Test) (x : Reply) (m : Meter) {l o : List ℕ} {n k : ℕ} (e : n ≡ refusal_of t) (s : Sent (bytes_of x) l o k) where
  -- the line answers, and the meter is as it was
  pub says_kept : Follows (says t x (line_of m.line)) m l o (received n k m)
  unfolding view
  says_kept = record { gave = record { refusal = e; count = s.count; meter = refl; room = s.holds }; kept = λ _. refl; wiped = kept_leaves m }

  -- the line answers, and becomes another
  pub says_line : (next : LineState) {becomes : Line} → line_of next ≡ becomes → listed (refusal_of t) keeping ≡ false → Wipes (line_of m.line) becomes next
      → Follows (says t x becomes) m l o (received n k (record { line = next; body = m.body }))
  unfolding view
  says_line next {becomes} v f w =
      record {
        gave = record { refusal = e; count = s.count; meter = ap (λ (y : Line). record { line = y; body = body_of m.body }) v; room = s.holds };
        kept = λ g. absurd (false≢true (sym f ∙ ap (λ (y : ℕ). listed y keeping) (sym e) ∙ g));
        wiped = leaves m next v m.body w;
      }

-- what one ruling comes to, by another that is the same
pub follows : {x y : Ruling} {m : Meter} {l o : List ℕ} {r : Received} → x ≡ y → Follows y m l o r → Follows x m l o r
follows e f = rw e f
