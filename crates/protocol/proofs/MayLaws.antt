-- What a client may send, as the table has it, is what `Decide` tests: the tag permitted, and its bit agreed.
use mathlib.Core.Path.{◌≡◌, refl}
use mathlib.Core.Bool.{true, false, false≢true}
use Rattle.model.specs.declared.Client.{Client}
use Rattle.model.specs.declared.Client.TheVariants.{Verification, Ciphering}
use Rattle.model.specs.declared.CipherClient.{CipherClient}
use Rattle.model.specs.State.{Association, none, pending, associated}
use Rattle.cosem.specs.declared.Tag.{Tag}
use Rattle.cosem.specs.declared.Tag.TheVariants.{Aarq, Rlrq, PlainRequest, GlobalAction, DedicatedRequest, Unknown}
use Rattle.cosem.specs.declared.ServiceKind.{ServiceKind}
use Rattle.cosem.specs.declared.ServiceKind.TheVariants.{Get, Set, Action}
use Rattle.protocol.specs.Clients.{agreed_in, is_pending, is_associated, permitted, bit_agreed}
use Rattle.protocol.specs.Outcomes.{MaySend, aarq, release_pending, release_associated, get, challenge, enclosed_get, enclosed_action}

pub may_permitted : {c : Client} {x : Association} {t : Tag} → MaySend c x t → permitted c x t ≡ true
may_permitted aarq = refl
may_permitted release_pending = refl
may_permitted release_associated = refl
may_permitted (get e) = refl
may_permitted challenge = refl
may_permitted (enclosed_get e) = refl
may_permitted (enclosed_action e) = refl

pub may_agreed : {c : Client} {x : Association} {t : Tag} → MaySend c x t → bit_agreed (agreed_in x) t ≡ true
may_agreed aarq = refl
may_agreed release_pending = refl
may_agreed release_associated = refl
may_agreed (get e) = e
may_agreed challenge = refl
may_agreed (enclosed_get e) = e
may_agreed (enclosed_action e) = e

pub may_pending : {c : CipherClient} {x : Association} → MaySend (Ciphering c) x GlobalAction → is_pending x ≡ true
may_pending challenge = refl

pub may_unassociated : {c : CipherClient} {x : Association} → MaySend (Ciphering c) x GlobalAction → is_associated x ≡ false
may_unassociated challenge = refl

pub may_associated : {c : CipherClient} {x : Association} {k : ServiceKind} → MaySend (Ciphering c) x (DedicatedRequest k) → is_associated x ≡ true
may_associated (enclosed_get e) = refl
may_associated (enclosed_action e) = refl

-- and nothing else passes the tests
pub may : (c : Client) (x : Association) (t : Tag) → permitted c x t ≡ true → bit_agreed (agreed_in x) t ≡ true → MaySend c x t
may c none Aarq p b = aarq
may c (pending g k d m) Aarq p b = absurd (false≢true p)
may c (associated g k) Aarq p b = absurd (false≢true p)
may c none Rlrq p b = absurd (false≢true p)
may c (pending g k d m) Rlrq p b = release_pending
may c (associated g k) Rlrq p b = release_associated
may c none (PlainRequest s) p b = absurd (false≢true p)
may c (pending g k d m) (PlainRequest s) p b = absurd (false≢true p)
may Verification (associated g k) (PlainRequest Get) p b = get b
may (Ciphering c) (associated g k) (PlainRequest Get) p b = absurd (false≢true p)
may c (associated g k) (PlainRequest Set) p b = absurd (false≢true p)
may c (associated g k) (PlainRequest Action) p b = absurd (false≢true p)
may c none GlobalAction p b = absurd (false≢true p)
may Verification (pending g k d m) GlobalAction p b = absurd (false≢true p)
may (Ciphering c) (pending g k d m) GlobalAction p b = challenge
may c (associated g k) GlobalAction p b = absurd (false≢true p)
may c none (DedicatedRequest s) p b = absurd (false≢true p)
may c (pending g k d m) (DedicatedRequest s) p b = absurd (false≢true p)
may Verification (associated g k) (DedicatedRequest Get) p b = absurd (false≢true p)
may (Ciphering c) (associated g k) (DedicatedRequest Get) p b = enclosed_get b
may c (associated g k) (DedicatedRequest Set) p b = absurd (false≢true p)
may Verification (associated g k) (DedicatedRequest Action) p b = absurd (false≢true p)
may (Ciphering c) (associated g k) (DedicatedRequest Action) p b = enclosed_action b
may c x Unknown p b = absurd (false≢true p)
