-- Lists that are lent: the array and the count that a meter is given stand for the list that is lent. Where the list is longer than
-- the array, both lists have too many members, and the call refuses both alike.
use mathlib.Core.Path.{◌≡◌, subst, ◌∙◌}
use mathlib.Core.Bool.{and-false}
use mathlib.Core.List.{List}
use Prim.Native.Nat.{ℕ, ◌/◌, ◌<◌}
use native.Mathlib.Omega.{arith}
use lib.ListN.{length}
use borrow.Author.Tests.{lt-leb}
use Rattle.wire.proofs.ReadingLaws.{by_order}
use Rattle.model.specs.declared.Name.{Name}
use Rattle.model.specs.declared.Register.{Register}
use Rattle.model.specs.Limits.{max_registers, max_columns}
use Rattle.model.specs.Names.{blank_name, blank_register}
use Rattle.model.specs.State.{Model}
use Rattle.model.specs.Soundness.{accepted_registers, accepted_columns}
use Rattle.model.specs.Calls.{OwnerCall, owner, give_registers, set_columns, Outcome, Protocol, act, step}
use Rattle.model.specs.Demand3.{Gave}
use Rattle.store.specs.Lists.{held}
use Rattle.store.proofs.HeldLaws.{held_take, held_length}
use Rattle.meter.specs.declared.Meter.{Meter}
use Rattle.meter.specs.declared.Changed.{Changed}
use Rattle.meter.specs.View.{view}
use Rattle.meter.specs.Promise.{Owned, handed}
use Rattle.image.specs.Codec.{Codec}
use Rattle.image.specs.Layout.{name_part, register_part}
use Rattle.image.specs.Lists.{list_in, Begins}
use Rattle.image.proofs.ListLaws.{length_list, begun}
use Rattle.image.specs.Sizes.{sizes}

-- calls that come to the same have the same promise
same_owned : {c d : OwnerCall} {m : Meter} {r : Changed} → ((p : Protocol) → step p (owner c) (view m) ≡ step p (owner d) (view m)) → Owned c m r → Owned d m r
same_owned {r = r} e o =
    record { promised = λ p. subst (λ (x : Outcome). Gave Meter view x (handed r)) (e p) (o.promised p); kept = o.kept }

-- A list by its part, where two lists that have too many members for the array are refused alike.
module _ {A : Type 0} (part : Codec A) {z : ℕ} (q : part.size ≡ z) (blank : A) (call : List A → OwnerCall) (places : ℕ) {m : Meter}
    (alike : (p : Protocol) (xs ys : List A) → places < length xs → places < length ys → step p (owner (call xs)) (view m) ≡ step p (owner (call ys)) (view m)) where
  given : (s : List ℕ) {xs : List A} {r : Changed} → Begins part places s xs → Owned (call (held blank (length s / z) xs)) m r → Owned (call (list_in part s)) m r
  given s {xs} {r} b o =
      let n = length s / z in
      by_order n places
      (λ h. subst (λ (l : List A). Owned (call l) m r) (held_take blank n xs (omega (arith, b.full)) ∙ begun part q s b h) o)
      (λ h. same_owned (λ p. alike p (held blank n xs) (list_in part s) (omega (arith, held_length blank n xs)) (omega (arith, length_list part q s))) o)

-- Registers.

registers_refused : (p : Protocol) (m : Model) (xs ys : List Register) → max_registers < length xs → max_registers < length ys → step p (owner (give_registers xs)) m ≡ step p (owner (give_registers ys)) m
unfolding step act accepted_registers
registers_refused p m xs ys h k = rw (lt-leb (length xs) max_registers h, lt-leb (length ys) max_registers k)

pub registers_given : {s : List ℕ} {xs : List Register} {m : Meter} {r : Changed} → Begins register_part 16 s xs
    → Owned (give_registers (held blank_register (length s / 13) xs)) m r
    → Owned (give_registers (list_in register_part s)) m r
unfolding max_registers
registers_given {s} {m = m} = given register_part sizes.register_size blank_register give_registers max_registers (λ p. registers_refused p (view m)) s

-- Columns.

columns_refused : (p : Protocol) (m : Model) (xs ys : List Name) → max_columns < length xs → max_columns < length ys → step p (owner (set_columns xs)) m ≡ step p (owner (set_columns ys)) m
unfolding step act accepted_columns
columns_refused p m xs ys h k = rw (lt-leb (length xs) max_columns h, lt-leb (length ys) max_columns k, and-false, and-false)

pub columns_given : {s : List ℕ} {xs : List Name} {m : Meter} {r : Changed} → Begins name_part 16 s xs
    → Owned (set_columns (held blank_name (length s / 6) xs)) m r
    → Owned (set_columns (list_in name_part s)) m r
unfolding max_columns
columns_given {s} {m = m} = given name_part sizes.name_size blank_name set_columns max_columns (λ p. columns_refused p (view m)) s
