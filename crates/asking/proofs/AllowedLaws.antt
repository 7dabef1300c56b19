-- What a client may ask goes to the body; what it may not ask is refused as malformed.
use mathlib.Core.Path.{◌≡◌, refl}
use mathlib.Core.List.{List}
use Prim.Native.Nat.{ℕ}
use Rattle.std.specs.Prelude.{cond, Some}
use Rattle.model.specs.declared.Client.{Client}
use Rattle.model.specs.declared.CipherClient.{CipherClient}
use Rattle.model.specs.declared.Client.TheVariants.{Verification, Ciphering}
use Rattle.model.specs.State.{Line}
use Rattle.hdlc.specs.declared.Head.{Head}
use Rattle.cosem.specs.declared.Reading.{Reading}
use Rattle.cosem.specs.declared.Reading.TheVariants.{Asks, GoesOn}
use Rattle.cosem.specs.declared.ServiceKind.{ServiceKind}
use Rattle.cosem.specs.Tags.{dedicated_tag}
use Rattle.protocol.specs.declared.Secrets.{Secrets}
use Rattle.protocol.specs.Clients.{blocks_in, selective_in}
use Rattle.protocol.specs.Rulings.{asks, refused_malformed}
use Rattle.protocol.specs.Decide.{accepted, advanced, asked, asked_inside, wrap}
use Rattle.answers.specs.Promise.{inquiry_in}
use Rattle.asking.specs.Allowed.{may_ask}

module _ (l : Line) (a : Secrets) (h : Head) (s : List ℕ) where
  pub plain_by : (c : Client) (r : Reading) → asked l a c h s (Some r)
      ≡ cond (may_ask l c r) (asks (inquiry_in c (selective_in c l) (blocks_in c l) s r) (wrap a.ak Verification h 0xC0) l) (refused_malformed h l)
  plain_by c (Asks q) = refl
  plain_by c (GoesOn i n) = refl

  pub inside_by : (c : CipherClient) (k : ServiceKind) (counter : ℕ) (r : Reading) → asked_inside l a c h k counter s (Some r)
      ≡ cond (may_ask l (Ciphering c) r) (asks (inquiry_in (Ciphering c) (selective_in (Ciphering c) l) (blocks_in (Ciphering c) l) s r) (wrap a.ak (Ciphering c) h (dedicated_tag k)) (advanced c (accepted c counter l)))
      (refused_malformed h (accepted c counter l))
  inside_by c k counter (Asks q) = refl
  inside_by c k counter (GoesOn i n) = refl
