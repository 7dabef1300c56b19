-- What settling comes to after a frame: a transfer depends on H's association alone, so that a frame which leaves that leaves a sound
-- meter's transfer, and one which ends it leaves none. And what is agreed: with H where a transfer runs; with V no block transfer on a
-- sound line.
use mathlib.Core.Path.{◌≡◌, refl, sym, ap, ◌∙◌}
use mathlib.Core.Bool.{Bool, true, false, cond, ◌&&◌, false≢true}
use mathlib.Core.List.{List, [], ◌∷◌}
use Prim.Native.Nat.{ℕ}
use lib.Bits.{bit_and, and_zero_r}
use lib.Dec.{eqb}
use borrow.Author.Tests.{eqb-true}
use Rattle.model.specs.declared.Client.TheVariants.{Verification, Ciphering}
use Rattle.model.specs.declared.CipherClient.{CipherClient}
use Rattle.model.specs.declared.CipherClient.TheVariants.{Han}
use Rattle.model.specs.declared.SoundnessTest.TheVariants.{AgreedServices, TransferPossible}
use Rattle.model.specs.Services.{offered, within, get_service, block_transfer}
use Rattle.model.specs.Selecting.{whole, numbered, dated}
use Rattle.model.specs.State.{Association, none, pending, associated, Line, Long, profile, Transfer, idle, running, ended, Body, with_transfer, Model, with_line}
use Rattle.model.specs.Soundness.{agreed_within, in_force, takes_blocks, could_ask, allowed, rows_allow, sound}
use Rattle.model.specs.Calls.{kept_by, settled}
use Rattle.model.proofs.ListLaws.{both}
use Rattle.model.proofs.SoundnessLaws.{sound_passes}
use Rattle.model.proofs.StaySound.{settled_stays}
use Rattle.protocol.specs.Clients.{agreed_in, blocks_in, is_associated}
use Rattle.protocol.specs.Decide.{accepted, advanced}
use Rattle.protocol.specs.Outcomes.{after_denial}
use Rattle.protocol.specs.Lazy.{up}

-- H's association.

abbrev pub of_han : Line → Association
of_han l = l.han.peer.association

-- a transfer that is allowed with it is allowed on every line with the same
pub allowed_same : (k l : Line) (t : Transfer) → of_han k ≡ of_han l → allowed k t ≡ allowed l t
unfolding allowed
allowed_same k l idle e = refl
allowed_same k l (running (profile whole) n) e = rw e
allowed_same k l (running (profile (numbered from to)) n) e = rw e
allowed_same k l (running (profile (dated from to)) n) e = rw e
allowed_same k l ended e = rw e

pub kept_same : (k l : Line) (t : Transfer) → of_han k ≡ of_han l → kept_by k t ≡ kept_by l t
kept_same k l t e = ap (λ (a : Bool). cond a t idle) (allowed_same k l t e)

-- counters are no part of it
pub counted_same : (c : CipherClient) (n : ℕ) (l : Line) → of_han (accepted c n l) ≡ of_han l
counted_same Han n l = refl

pub advanced_same : (c : CipherClient) (n : ℕ) (l : Line) → of_han (advanced c (accepted c n l)) ≡ of_han l
advanced_same Han n l = refl

-- a link-up of a client that ciphers ends it
pub up_none : (c : CipherClient) (l : Line) → of_han (up (Ciphering c) l) ≡ none
up_none Han l = refl

-- A sound meter.

pub kept_sound : (m : Model) → sound m ≡ true → kept_by m.line m.body.transfer ≡ m.body.transfer
kept_sound m s = ap (λ (n : Model). n.body.transfer) (settled_stays m s)

-- one that gets a line with the same association of H
pub settled_same : (l : Line) (m : Model) → sound m ≡ true → of_han l ≡ of_han m.line → settled (with_line l m) ≡ with_line l m
settled_same l m s e =
    ap (λ (t : Transfer). record { line = l; body = with_transfer t m.body }) (kept_same l m.line m.body.transfer e ∙ kept_sound m s)

-- no transfer is always kept
pub settled_idle : (l : Line) (b : Body) → settled (record { line = l; body = with_transfer idle b }) ≡ record { line = l; body = with_transfer idle b }
unfolding allowed
settled_idle l b = refl

-- what a denial leaves is kept
pub settled_denied : (forgets : Bool) (l : Line) (m : Model) → sound m ≡ true → of_han l ≡ of_han m.line
    → settled (record { line = l; body = after_denial forgets m.body }) ≡ record { line = l; body = after_denial forgets m.body }
settled_denied true l m s e = settled_idle l m.body
settled_denied false l m s e = settled_same l m s e

-- Without an association that stands there is none.

not_in_force : (x : Association) → is_associated x ≡ false → within get_service (in_force x) ≡ false
unfolding within
not_in_force none e = refl
not_in_force (pending a k c d) e = refl
not_in_force (associated a k) e = absurd (false≢true (sym e))

pub takes_none : (l : Line) → is_associated (of_han l) ≡ false → takes_blocks l ≡ false
takes_none l e = rw (not_in_force (of_han l) e)

pub kept_none : (l : Line) (t : Transfer) → is_associated (of_han l) ≡ false → kept_by l t ≡ idle
unfolding allowed
kept_none l idle e = refl
kept_none l (running x k) e = ap (λ (a : Bool). cond (a && could_ask x l) (running x k) idle) (takes_none l e)
kept_none l ended e = ap (λ (a : Bool). cond a ended idle) (takes_none l e)

pub settled_ended : (l : Line) (b : Body) → is_associated (of_han l) ≡ false → settled (record { line = l; body = b }) ≡ record { line = l; body = with_transfer idle b }
settled_ended l b e = ap (λ (t : Transfer). record { line = l; body = with_transfer t b }) (kept_none l b.transfer e)

-- A transfer that runs: H takes blocks, and it is kept block by block.

module _ (m : Model) (s : sound m ≡ true) (x : Long) (k : ℕ) (runs : m.body.transfer ≡ running x k) where
  run_allowed : takes_blocks m.line && could_ask x m.line ≡ true
  unfolding allowed
  run_allowed = rw runs at (both (allowed m.line m.body.transfer) (rows_allow m.body.store m.body.transfer) (sound_passes m s TransferPossible)).0

  pub run_agreed : blocks_in (Ciphering Han) m.line ≡ true
  unfolding within
  run_agreed = go (of_han m.line) (both (within get_service (in_force (of_han m.line))) _ (both (takes_blocks m.line) (could_ask x m.line) run_allowed).0).1
    where
      go : (y : Association) → within block_transfer (in_force y) ≡ true → within block_transfer (agreed_in y) ≡ true
      go none e = absurd (false≢true e)
      go (pending a b c d) e = absurd (false≢true e)
      go (associated a b) e = e

  -- on a line with the same association of H
  pub run_kept : (l : Line) (ends : Bool) (n : ℕ) → of_han l ≡ of_han m.line → kept_by l (cond ends idle (running x n)) ≡ cond ends idle (running x n)
  unfolding allowed
  run_kept l true n e = refl
  run_kept l false n e = kept_same l m.line (running x n) e ∙ ap (λ (a : Bool). cond a (running x n) idle) run_allowed

-- Block transfer is not agreed with V.

module _ (m : Model) (s : sound m ≡ true) where
  -- the bit stands in no byte that lies within 00
  no_bit : (y : ℕ) → eqb (bit_and y 0x00) y ≡ true → eqb (bit_and 0x10 y) 0x10 ≡ true → ⊥
  no_bit y e f =
      let z : y ≡ 0 = sym (eqb-true (bit_and y 0x00) y e) ∙ and_zero_r y in
      let i : eqb (bit_and 0x10 0) 0x10 ≡ true = rw z at f in
      false≢true i

  not_within : (xs : List ℕ) → within xs (offered Verification) ≡ true → within block_transfer xs ≡ true → ⊥
  unfolding within
  not_within [] e f = false≢true e
  not_within (x ∷ []) e f = let i = both (eqb (bit_and 0x00 x) 0x00) false f in false≢true i.1
  not_within (x ∷ y ∷ zs) e f =
      let i = (both (eqb (bit_and x 0x00) x) _ e).1 in
      let j = (both (eqb (bit_and 0x00 x) 0x00) _ f).1 in
      no_bit y (both (eqb (bit_and y 0x00) y) _ i).0 (both (eqb (bit_and 0x10 y) 0x10) _ j).0

  not_agreed : (x : Association) → agreed_within (offered Verification) x ≡ true → within block_transfer (agreed_in x) ≡ true → ⊥
  unfolding within
  not_agreed none e f = false≢true f
  not_agreed (pending a k c d) e f = not_within a e f
  not_agreed (associated a k) e f = not_within a e f

  pub no_blocks_of_v : blocks_in Verification m.line ≡ true → ⊥
  no_blocks_of_v =
      not_agreed m.line.verification.association
      (both (agreed_within (offered Verification) m.line.verification.association) (agreed_within (offered (Ciphering Han)) m.line.han.peer.association) (sound_passes m s AgreedServices)).0
