-- A link-up lets an AARQ in, and is answered by UA; P5 holds V off: `LinkUpLetsIn`, `HeldOff`, `NewMeterLetsIn` and
-- `LinkUpAnswered` of specs/Lazy, proved.
-- Besides, what a frame with enough lent comes to on a sound meter, by its ruling, for the other statements.
use mathlib.Core.Path.{◌≡◌, refl, sym, ap, ◌∙◌}
use mathlib.Core.Bool.{true, false}
use mathlib.Core.List.{List, [], ◌∷◌, append_assoc, append-nil}
use Prim.Native.Nat.{ℕ, ◌+◌, ◌≤◌, ◌<◌}
use native.Mathlib.Omega.{arith}
use lib.ListN.{length, take, drop, length-append}
use borrow.Author.Tests.{le-ltb, eq-eqb}
use Rattle.std.specs.Prelude.{Option, Some, None}
use Rattle.gf2.specs.Shift.{step as shift, steps}
use Rattle.wire.specs.Numbers.{number_high}
use Rattle.wire.specs.Reading.{same_bytes}
use Rattle.wire.proofs.NumberLaws.{number_one}
use Rattle.wire.proofs.ReadingLaws.{number_here}
use Rattle.fcs.specs.Check.{check_of, check_from, check_byte, polynomial}
use Rattle.model.specs.declared.Client.{Client}
use Rattle.model.specs.declared.Client.TheVariants.{Verification}
use Rattle.model.specs.Limits.{longest_sent, longest_received, reply_room, greatest_length, least_size}
use Rattle.model.specs.Services.{offered, common}
use Rattle.model.specs.State.{associated, Line, Model, with_line, new_meter}
use Rattle.model.specs.Soundness.{sound}
use Rattle.model.specs.Calls.{Lent, lent_refusal, frame as frame_call, Outcome, decided, settled, settles, act, step}
use Rattle.model.proofs.StaySound.{new_meter_sound, settled_stays}
use Rattle.hdlc.specs.declared.Head.{Head}
use Rattle.hdlc.specs.declared.Frame.TheVariants.{LinkUp}
use Rattle.hdlc.specs.Layout.{byte, head_of, format_of, hcs_of, information_of, fcs_of, head_bytes, checked, flagged, frame_of}
use Rattle.hdlc.specs.Addresses.{sender_of}
use Rattle.hdlc.specs.Tests.{first_failing}
use Rattle.hdlc.specs.Reading.{refused_frame, accepted_frame, read_frame}
use Rattle.hdlc.specs.Replies.{ua_frame, dm_frame}
use Rattle.hdlc.proofs.ReadingLaws.{read_told}
use Rattle.hdlc.proofs.RoundTrip.{request_read, request_apdu}
use Rattle.cosem.specs.declared.Tag.TheVariants.{Aarq}
use Rattle.cosem.specs.Tags.{tag_of, tag_in}
use Rattle.acse.specs.declared.Aarq.TheVariants.{Plain}
use Rattle.acse.specs.Aarq.{plain_aarq, read_aarq}
use Rattle.acse.specs.Aare.{plain_aare}
use Rattle.acse.proofs.LaidLaws.{written}
use Rattle.acse.proofs.AarqLaws.{plain_accepted, services_there}
use Rattle.protocol.specs.declared.Secrets.{Secrets}
use Rattle.protocol.specs.Clients.{associates}
use Rattle.protocol.specs.Rulings.{none as no_test, p5_holds_v, ua, dm, apdu, says, decision}
use Rattle.protocol.specs.Decide.{held_by_p5, link_up, accepted_plain, conversed, carried, secrets_of, ruled, decide, p2}
use Rattle.protocol.specs.Examples.{link_up_frame}
use Rattle.protocol.specs.Outcomes.{outcome, head_in, replied, said}
use Rattle.protocol.specs.Lazy.{Enough, request_frame, aarq_of_v, LinksUp, up, LinkUpLetsIn, HeldOff, NewMeterLetsIn, Speaks, LinkUpAnswered}
use Rattle.protocol.proofs.Claim.{p2_stays_sound}
use Rattle.protocol.proofs.Settling.{settled_same}

-- By the ruling.

lends : (a : Lent) → Enough a → lent_refusal a ≡ 0
unfolding lent_refusal
lends a e =
    rw (
      le-ltb a.room (reply_room longest_sent) e.room,
      eq-eqb (length a.guk) 16 e.guk,
      eq-eqb (length a.ak) 16 e.ak,
      eq-eqb (length a.challenge) 8 e.challenge,
    )

pub outcome_ruled : (a : Lent) (m : Model) → Enough a → sound m ≡ true → outcome a m ≡ settles (decided p2 (decision (ruled m.line a)) m)
unfolding step act decide
outcome_ruled a m e s = rw (lends a e, s)

-- a client's request reaches the conversation
pub ruled_request : (l : Line) (a : Lent) (c : Client) (s : List ℕ) → a.received ≡ request_frame c s → 0 < length s → 3 + length s ≤ longest_received
    → ruled l a ≡ carried l (secrets_of a) c (head_in a) s
unfolding ruled
ruled_request l a c s e some fits =
    let told = rw (request_read c s some fits) at (read_told (request_frame c s)) in
    rw (e, request_read c s some fits, request_apdu c s some fits) (ap (λ (h : Head). carried l (secrets_of a) c h s) told.1)

-- the tag of an APDU is its first byte
pub tag_first : (b : ℕ) (s : List ℕ) → tag_in (b ∷ s) ≡ tag_of b
unfolding tag_in
tag_first b s = rw (number_here (b ∷ s) 0 1 (omega arith), number_one (b ∷ s) 0 (omega arith))

-- The link-up.

link_up_read : read_frame link_up_frame ≡ LinkUp Verification (head_of link_up_frame) false
unfolding shift steps same_bytes check_of check_from check_byte polynomial longest_received greatest_length format_of hcs_of information_of fcs_of sender_of first_failing refused_frame accepted_frame read_frame
link_up_read = refl

module _ (c : Client) (m : Model) (a : Lent) (s : sound m ≡ true) (p : held_by_p5 c m.line ≡ false) (enough : Enough a) (e : LinksUp c a) where
  ruled_up : ruled m.line a ≡ says no_test (ua (head_in a)) (up c m.line)
  unfolding ruled link_up
  ruled_up = rw (e, p)

  pub up_outcome : outcome a m ≡ said 0 (ua_frame (head_in a)) (up c m.line) m
  up_outcome = outcome_ruled a m enough s ∙ ap (λ r. settles (decided p2 (decision r) m)) ruled_up

  pub up_sound : sound (settled (with_line (up c m.line) m)) ≡ true
  up_sound = ap (λ (o : Outcome). sound o.next) (sym up_outcome) ∙ p2_stays_sound (frame_call a) m s

pub held_off : HeldOff
unfolding ruled link_up
held_off m a s p enough e =
    let off : ruled m.line a ≡ says p5_holds_v (dm (head_in a)) m.line = rw (e, p) in
    outcome_ruled a m enough s ∙ ap (λ r. settles (decided p2 (decision r) m)) off ∙ ap (replied 10 (dm_frame (head_in a))) (settled_stays m s)

-- The AARQ.

module _ (title services size : List ℕ) where
  aarq_written : aarq_of_v title services size ≡ written (plain_aarq Verification title) (services ∷ size ∷ [])
  unfolding aarq_of_v
  aarq_written = simp (append_assoc, append-nil)

  length_aarq : length title ≡ 8 → length services ≡ 3 → length size ≡ 2 → length (aarq_of_v title services size) ≡ 52
  unfolding aarq_of_v
  length_aarq h k j = simp length-append (omega arith)

  tag_aarq : tag_in (aarq_of_v title services size) ≡ Aarq
  unfolding aarq_of_v tag_of
  tag_aarq = tag_first 0x60 _

  module _ (eight : length title ≡ 8) (three : length services ≡ 3) (two : length size ≡ 2) (enough : least_size longest_sent ≤ number_high size) where
    aarq_read : read_aarq (aarq_of_v title services size) Verification title ≡ Some (Plain 47)
    aarq_read = rw aarq_written (plain_accepted Verification title services size refl three two enough)

    aarq_services : take 3 (drop 47 (aarq_of_v title services size)) ≡ services
    aarq_services = rw aarq_written (services_there Verification title services size eight three)

    abbrev agreed : List ℕ
    agreed = common services (offered Verification)

    -- on a line with V's link up and no association
    aarq_carried : (l : Line) (a : Secrets) (h : Head) → l.verification.title ≡ title
        → carried (up Verification l) a Verification h (aarq_of_v title services size) ≡ says no_test (apdu h (plain_aare Verification l.title agreed)) (associates Verification (associated agreed []) (up Verification l))
    unfolding carried conversed accepted_plain
    aarq_carried l a h e = rw (tag_aarq, e, aarq_read, aarq_services)

pub link_up_lets_in : LinkUpLetsIn
unfolding longest_received
link_up_lets_in m link aarq services size s p eight enough₁ enough₂ three two least e₁ e₂ =
    let title = m.line.verification.title in
    let apdu = aarq_of_v title services size in
    let first = up_outcome Verification m link s p enough₁ e₁ in
    let long = length_aarq title services size eight three two in
    let m₁ = with_line (up Verification m.line) m in
    let same : settled m₁ ≡ m₁ = settled_same (up Verification m.line) m s refl in
    let r = ruled_request (up Verification m.line) aarq Verification apdu e₂ (omega arith) (omega arith) ∙ aarq_carried title services size eight three two least m.line (secrets_of aarq) (head_in aarq) refl in
    record {
      first = first;
      second =
          ap (λ (o : Outcome). outcome aarq o.next) first
          ∙ ap (outcome aarq) same
          ∙ outcome_ruled aarq m₁ enough₂ (ap sound (sym same) ∙ up_sound Verification m link s p enough₁ e₁)
          ∙ ap (λ r. settles (decided p2 (decision r) m₁)) r;
    }

pub new_meter_lets_in : NewMeterLetsIn
unfolding new_meter
new_meter_lets_in device title verification han link aarq services size eight enough₁ enough₂ three two least e₁ e₂ =
    link_up_lets_in (new_meter device title verification han) link aarq services size (new_meter_sound device title verification han) refl eight enough₁ enough₂ three two least (rw e₁ link_up_read) e₂

-- UA is neither nothing nor DM.

control_of : (d s c : ℕ) → byte (frame_of d s c []) 5 ≡ c
unfolding frame_of flagged checked head_bytes
control_of d s c = refl

ua_speaks : (h : Head) → Speaks (ua_frame h)
ua_speaks h =
    record {
      not_silent = λ e. omega (arith, ap length e, ap (λ (f : List ℕ). byte f 5) e, control_of h.source h.destination 0x73);
      no_dm = λ g e. omega (arith, ap (λ (f : List ℕ). byte f 5) e, control_of h.source h.destination 0x73, control_of g.source g.destination 0x1F);
    }

pub link_up_answered : LinkUpAnswered
link_up_answered m link s p enough e = rw (up_outcome Verification m link s p enough e) (ua_speaks (head_in link))
