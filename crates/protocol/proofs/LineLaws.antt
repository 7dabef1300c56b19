-- Laws of the line: a client's part that is replaced is the new one, and every other part is as it was. Those by cases of the
-- clients that cipher come first; a further client is one clause more in each of them, and in `other_ciphering` as many as there
-- are clients beside it. The rest follows from them for whatever client.
use mathlib.Core.Path.{◌≡◌, refl, ap}
use mathlib.Core.Logic.{◌⊎◌, inl, inr, ⊎_elim}
use Prim.Native.Nat.{ℕ}
use Rattle.model.specs.declared.Client.{Client}
use Rattle.model.specs.declared.Client.TheVariants.{Verification, Ciphering}
use Rattle.model.specs.declared.CipherClient.{CipherClient}
use Rattle.model.specs.declared.CipherClient.TheVariants.{Han}
use Rattle.model.specs.declared.Counters.{Counters}
use Rattle.model.specs.State.{Association, Peer, CipheringPeer, Line}
use Rattle.counters.specs.Advance.{taken}
use Rattle.counters.specs.Window.{accepting}
use Rattle.protocol.specs.Clients.{ciphering, with_ciphering, peer, with_peer, associates, counters, with_counters, held}
use Rattle.protocol.specs.Decide.{accepted, advanced}

-- By cases of the clients that cipher.

pub own_ciphering : (c : CipherClient) (p : CipheringPeer) (l : Line) → ciphering c (with_ciphering c p l) ≡ p
own_ciphering Han p l = refl

other_ciphering : (c d : CipherClient) (p : CipheringPeer) (l : Line) → (c ≡ d) ⊎ (ciphering c (with_ciphering d p l) ≡ ciphering c l)
other_ciphering Han Han p l = inl refl

other_plain : (c : CipherClient) (p : CipheringPeer) (l : Line) → (with_ciphering c p l).verification ≡ l.verification
other_plain Han p l = refl

ciphering_beside : (c : CipherClient) (p : Peer) (l : Line) → ciphering c (with_peer Verification p l) ≡ ciphering c l
ciphering_beside Han p l = refl

pub own_title : (c : CipherClient) (p : CipheringPeer) (l : Line) → (with_ciphering c p l).title ≡ l.title
own_title Han p l = refl

-- counters and an association may change in either order
pub associates_counted : (c : CipherClient) (x : Association) (n : Counters) (l : Line)
    → associates (Ciphering c) x (with_counters c n l) ≡ with_counters c n (associates (Ciphering c) x l)
associates_counted Han x n l = refl

-- of an association and counters that are replaced nothing is left
pub replaced : (c : CipherClient) (n k : Counters) (x y : Association) (l : Line)
    → with_counters c n (associates (Ciphering c) y (with_counters c k (associates (Ciphering c) x l))) ≡ with_counters c n (associates (Ciphering c) y l)
replaced Han n k x y l = refl

-- the line after a request: the counters after it, and all else as it was
pub advanced_is : (c : CipherClient) (counter : ℕ) (l : Line)
    → advanced c (accepted c counter l) ≡ with_counters c (taken (accepting (counters c l) counter)).counters l
advanced_is Han counter l = refl

-- Of every client.

pub own_part : (c : Client) (p : Peer) (l : Line) → peer c (with_peer c p l) ≡ p
own_part Verification p l = refl
own_part (Ciphering c) p l = ap (λ (x : CipheringPeer). x.peer) (own_ciphering c _ l)

-- it is the client itself, or its part is as it was
pub other_part : (c d : Client) (p : Peer) (l : Line) → (c ≡ d) ⊎ (peer c (with_peer d p l) ≡ peer c l)
other_part Verification Verification p l = inl refl
other_part Verification (Ciphering d) p l = inr (other_plain d _ l)
other_part (Ciphering c) Verification p l = inr (ap (λ (x : CipheringPeer). x.peer) (ciphering_beside c p l))
other_part (Ciphering c) (Ciphering d) p l =
    ⊎_elim (λ e. inl (ap Ciphering e)) (λ e. inr (ap (λ (x : CipheringPeer). x.peer) e)) (other_ciphering c d _ l)

-- Counters are no part of a link or an association.

pub counted_part : (c : CipherClient) (n : Counters) (l : Line) (d : Client) → peer d (with_counters c n l) ≡ peer d l
counted_part c n l Verification = other_plain c _ l
counted_part c n l (Ciphering d) =
    ⊎_elim (λ e. rw e (ap (λ (x : CipheringPeer). x.peer) (own_ciphering c _ l))) (λ e. ap (λ (x : CipheringPeer). x.peer) e) (other_ciphering d c _ l)

module _ (c : CipherClient) (n : Counters) (l : Line) where
  pub counted_held : held c (with_counters c n l) ≡ held c l
  counted_held = ap (λ (x : Peer). x.association) (counted_part c n l (Ciphering c))

  pub counted_counters : counters c (with_counters c n l) ≡ n
  counted_counters = ap (λ (x : CipheringPeer). x.counters) (own_ciphering c _ l)

  pub counted_title : (with_counters c n l).title ≡ l.title
  counted_title = own_title c _ l
