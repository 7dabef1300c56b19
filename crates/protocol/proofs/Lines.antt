-- A sound line stays sound, whatever frame comes: kinds, links and services of each client, at every leaf.
use mathlib.Core.Path.{◌≡◌, refl}
use mathlib.Core.Bool.{Bool, true, false, ◌&&◌, or-true, false≢true}
use mathlib.Core.List.{[]}
use Rattle.model.specs.declared.Client.{Client}
use Rattle.model.specs.declared.CipherClient.{CipherClient}
use Rattle.model.specs.declared.Client.TheVariants.{Verification, Ciphering}
use Rattle.model.specs.declared.CipherClient.TheVariants.{Han}
use Rattle.model.specs.declared.Counters.{Counters}
use Rattle.model.specs.Services.{offered, common}
use Rattle.model.specs.State.{Association, none, pending, associated, Peer, Line}
use Rattle.model.specs.Soundness.{known_kind, on_link, agreed_within, kinds_known, links_stand, services_offered, line_sound}
use Rattle.model.specs.Calls.{Lent}
use Rattle.model.specs.Archive.{line_after, KeepsLines}
use Rattle.model.proofs.ListLaws.{both, both_true}
use Rattle.acse.proofs.ServiceLaws.{common_within}
use Rattle.protocol.specs.Clients.{peer, with_peer, linked, associates, with_association, with_counters, held, agreed_in, key_in, is_pending}
use Rattle.protocol.specs.Rulings.{Ruling, decision}
use Rattle.protocol.specs.Decide.{accepted_plain, accepted_ciphered, proved, disproved, decide, p2}
use Rattle.protocol.proofs.MayLaws.{may_pending}
use Rattle.protocol.proofs.Leaves as by

-- a client's part of the line is sound
record Good (c : Client) (p : Peer) : Type 0 where
  kind : known_kind c p.association ≡ true
  link : on_link p ≡ true
  services : agreed_within (offered c) p.association ≡ true

good : (c : Client) (l : Line) → line_sound l ≡ true → Good c (peer c l)
good c l s = go c
  where
    k : kinds_known l && links_stand l ≡ true
    k = (both (kinds_known l && links_stand l) (services_offered l) s).0

    kinds : (known_kind Verification l.verification.association ≡ true) × (known_kind (Ciphering Han) l.han.peer.association ≡ true)
    kinds = both _ (known_kind (Ciphering Han) l.han.peer.association) (both (kinds_known l) (links_stand l) k).0

    links : (on_link l.verification ≡ true) × (on_link l.han.peer ≡ true)
    links = both (on_link l.verification) (on_link l.han.peer) (both (kinds_known l) (links_stand l) k).1

    services : (agreed_within (offered Verification) l.verification.association ≡ true) × (agreed_within (offered (Ciphering Han)) l.han.peer.association ≡ true)
    services = both (agreed_within (offered Verification) l.verification.association) (agreed_within (offered (Ciphering Han)) l.han.peer.association) (both (kinds_known l && links_stand l) (services_offered l) s).1

    go : (c : Client) → Good c (peer c l)
    go Verification = record { kind = kinds.0; link = links.0; services = services.0 }
    go (Ciphering Han) = record { kind = kinds.1; link = links.1; services = services.1 }

good_line : (l : Line) → Good Verification l.verification → Good (Ciphering Han) l.han.peer → line_sound l ≡ true
good_line l v h = both_true (both_true (both_true v.kind h.kind) (both_true v.link h.link)) (both_true v.services h.services)

with_peer_lem : (c : Client) (p : Peer) (l : Line) → Good c p → line_sound l ≡ true → line_sound (with_peer c p l) ≡ true
with_peer_lem Verification p l g s = good_line (with_peer Verification p l) g (good (Ciphering Han) l s)
with_peer_lem (Ciphering Han) p l g s = good_line (with_peer (Ciphering Han) p l) (good Verification l s) g

with_counters_lem : (c : CipherClient) (n : Counters) (l : Line) → line_sound l ≡ true → line_sound (with_counters c n l) ≡ true
with_counters_lem Han n l s = s

good_linked : (c : Client) (up : Bool) (p : Peer) → Good c (linked up p)
good_linked Verification true p = record { kind = refl; link = refl; services = refl }
good_linked Verification false p = record { kind = refl; link = refl; services = refl }
good_linked (Ciphering c) true p = record { kind = refl; link = refl; services = refl }
good_linked (Ciphering c) false p = record { kind = refl; link = refl; services = refl }

-- an association that stands on a link that is up, of a kind that the client may have, with services within those offered
good_standing : (c : Client) (a : Association) (p : Peer) → known_kind c a ≡ true → agreed_within (offered c) a ≡ true → p.up ≡ true → Good c (with_association a p)
good_standing c a p k o u = record { kind = k; link = rw u; services = o }

good_ended : (c : Client) (p : Peer) → Good c (with_association none p)
good_ended Verification p = record { kind = refl; link = or-true p.up; services = refl }
good_ended (Ciphering c) p = record { kind = refl; link = or-true p.up; services = refl }

-- while pending, what was agreed lies within what is offered
agreed_stays : (c : Client) (x : Association) → is_pending x ≡ true → agreed_within (offered c) x ≡ true → agreed_within (offered c) (associated (agreed_in x) (key_in x)) ≡ true
agreed_stays c none e w = absurd (false≢true e)
agreed_stays c (pending ag k d m) e w = w
agreed_stays c (associated ag k) e w = absurd (false≢true e)

module _ (l : Line) (a : Lent) (s : line_sound l ≡ true) where
  ends : (c : Client) → line_sound (associates c none l) ≡ true
  ends c = with_peer_lem c (with_association none (peer c l)) l (good_ended c (peer c l)) s

  links : (c : Client) (up : Bool) → line_sound (with_peer c (linked up (peer c l)) l) ≡ true
  links c up = with_peer_lem c (linked up (peer c l)) l (good_linked c up (peer c l)) s

  stands : (c : Client) (x : Association) → known_kind c x ≡ true → agreed_within (offered c) x ≡ true → (peer c l).up ≡ true → line_sound (associates c x l) ≡ true
  stands c x k o up = with_peer_lem c (with_association x (peer c l)) l (good_standing c x (peer c l) k o up) s

  keeps_leaf : {r : Ruling} → by.Leaf l a r → line_sound (line_after (decision r)) ≡ true
  unfolding accepted_plain accepted_ciphered proved disproved
  keeps_leaf (by.unheard t n) = s
  keeps_leaf (by.rejects t n first) = s
  keeps_leaf (by.no_link t from n) = s
  keeps_leaf (by.goes_up c from p) = links c true
  keeps_leaf (by.goes_down c from up) = links c false
  keeps_leaf (by.excepts t n r x) = s
  keeps_leaf (by.departs c t) = s
  keeps_leaf (by.associates_plain proposed t) =
      stands Verification (associated (common proposed (offered Verification)) []) refl (common_within proposed (offered Verification)) t.reaches.up
  keeps_leaf (by.begins c client key proposed n t) =
      with_counters_lem c _ _ (stands (Ciphering c) (pending (common proposed (offered (Ciphering c))) key client a.challenge) refl (common_within proposed (offered (Ciphering c))) t.reaches.up)
  keeps_leaf (by.releases c t) = ends c
  keeps_leaf (by.serves q t e) = s
  keeps_leaf (by.goes_on i n t b) = s
  keeps_leaf (by.unopened t) = s
  keeps_leaf (by.drops c o w) = ends (Ciphering c)
  keeps_leaf (by.excepts_inside t c n o w x) = with_counters_lem c _ l s
  keeps_leaf (by.proves c invoke n o w) =
      let x = held c l in
      let p = may_pending o.timely.may in
      with_counters_lem c _ _ (stands (Ciphering c) (associated (agreed_in x) (key_in x)) refl (agreed_stays (Ciphering c) x p (good (Ciphering c) l s).services) o.timely.reaches.up)
  keeps_leaf (by.disproves c invoke n o w) = with_counters_lem c _ _ (ends (Ciphering c))
  keeps_leaf (by.serves_inside c k q o w e) = with_counters_lem c _ _ (with_counters_lem c _ l s)
  keeps_leaf (by.goes_on_inside c k i n o w e b) = with_counters_lem c _ _ (with_counters_lem c _ l s)

pub keeps_lines : KeepsLines p2
unfolding decide
keeps_lines l a s = keeps_leaf l a s (by.leaf l a)
