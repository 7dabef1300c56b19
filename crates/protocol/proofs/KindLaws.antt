-- What is read by the tag of a service is a request of that service; a numbered request is a GET.
use mathlib.Core.Path.{◌≡◌, refl, ap}
use mathlib.Core.Bool.{Bool, true, false, cond, false≢true}
use mathlib.Core.List.{List}
use Prim.Native.Nat.{ℕ}
use lib.Dec.{eqb}
use lib.ListN.{length}
use Rattle.std.specs.Prelude.{Option, Some, None}
use Rattle.wire.specs.Reading.{Field}
use Rattle.std.specs.Prelude.{Option, Some, None}
use Rattle.wire.specs.Reading.{expected, number_at, then_at, then_field}
use Rattle.model.specs.Selecting.{Selection}
use Rattle.model.specs.Objects.{Service, get, action}
use Rattle.model.proofs.ListLaws.{by_test}
use Rattle.cosem.specs.declared.ServiceKind.{ServiceKind}
use Rattle.cosem.specs.declared.ServiceKind.TheVariants.{Get, Set, Action}
use Rattle.cosem.specs.declared.Asked.{Asked}
use Rattle.cosem.specs.declared.Reading.{Reading}
use Rattle.cosem.specs.declared.Reading.TheVariants.{Asks, GoesOn}
use Rattle.cosem.specs.Requests.{get_normal, get_next, action_normal, byte, optional_part, last_value, get_with, read_get, read_next, read_gets, action_with, read_action, read_service, service_in}

abbrev pub kind_of : Service → ServiceKind
kind_of (get a s) = Get
kind_of (action k v) = Action

-- an ACTION is no GET
pub action_no_get : Action ≡ Get → ⊥
action_no_get e = false≢true (ap is_get e)
  where
    is_get : ServiceKind → Bool
    is_get Get = true
    is_get Set = false
    is_get Action = false

abbrev OfKind : ServiceKind → List ℕ → Option Reading → Type 0
OfKind k text (Some (Asks q)) = kind_of (service_in text q.wanted) ≡ k
OfKind k text (Some (GoesOn i n)) = k ≡ Get
OfKind k text None = Unit {0}

gets : (text : List ℕ) → OfKind Get text (read_gets text)
unfolding read_gets read_next read_get
gets text = by_test (OfKind Get text) (eqb (byte text 1) 0x02) (λ _. next (expected text 0 get_next)) (λ _. part (optional_part get_normal text))
  where
    number : (f : Option Field) → OfKind Get text (then_field f None (λ n at. cond (eqb at (length text)) (Some (GoesOn (byte text 2) n)) None))
    number (Some (n, at)) = by_test (OfKind Get text) (eqb at (length text)) (λ _. refl) (λ _. tt)
    number None = tt

    next : (e : Option ℕ) → OfKind Get text (then_at e None (λ _. then_field (number_at 4 text 3) None (λ n at. cond (eqb at (length text)) (Some (GoesOn (byte text 2) n)) None)))
    next (Some at) = number (number_at 4 text 3)
    next None = tt

    part : (p : Option Bool) → OfKind Get text (get_with text p)
    part (Some false) = refl
    part (Some true) = by_test (OfKind Get text) (last_value text 14) (λ _. refl) (λ _. tt)
    part None = tt

acts : (text : List ℕ) → OfKind Action text (read_action text)
unfolding read_action
acts text = part (optional_part action_normal text)
  where
    part : (p : Option Bool) → OfKind Action text (action_with text p)
    part (Some false) = refl
    part (Some true) = by_test (OfKind Action text) (last_value text 13) (λ _. refl) (λ _. tt)
    part None = tt

of_kind : (k : ServiceKind) (text : List ℕ) → OfKind k text (read_service k text)
of_kind Get text = gets text
of_kind Set text = tt
of_kind Action text = acts text

pub asked_kind : (k : ServiceKind) (text : List ℕ) (q : Asked) → read_service k text ≡ Some (Asks q) → kind_of (service_in text q.wanted) ≡ k
asked_kind k text q e = rw e at (of_kind k text)

-- a request with the tag of GET is a read
pub record IsRead (s : Service) : Type 0 where
  pub attribute : ℕ
  pub selection : Selection
  pub is : s ≡ get attribute selection

pub is_read : (s : Service) → kind_of s ≡ Get → IsRead s
is_read (get a s) e = record { attribute = a; selection = s; is = refl }
is_read (action k v) e = absurd (action_no_get e)

pub numbered_kind : (k : ServiceKind) (text : List ℕ) (invoke number : ℕ) → read_service k text ≡ Some (GoesOn invoke number) → k ≡ Get
numbered_kind k text i n e = rw e at (of_kind k text)
