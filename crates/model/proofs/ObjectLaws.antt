-- What a name means to a client, by the name: the rows go with the profile's name, a register's value with its own. What a
-- granted ACTION was on, where it changes a body: method 1 of the profile, or of the record number. And that a GET or a numbered
-- request changes nothing of a body but its transfer.
use mathlib.Core.Path.{◌≡◌, refl}
use mathlib.Core.Bool.{Bool, true, false, cond, not, ◌&&◌}
use mathlib.Core.List.{List, [], ◌∷◌}
use Prim.Native.Nat.{ℕ, suc}
use native.Mathlib.Omega.{arith}
use lib.Dec.{eqb, leb}
use borrow.Author.Tests.{leb-true, eqb-true, eq-eqb}
use Rattle.model.specs.declared.Name.{Name}
use Rattle.model.specs.declared.Client.{Client}
use Rattle.model.specs.declared.Client.TheVariants.{Verification, Ciphering}
use Rattle.model.specs.declared.CipherClient.TheVariants.{Han}
use Rattle.model.specs.declared.Register.{Register}
use Rattle.model.specs.Names.{every, same_name, given, bearing}
use Rattle.model.specs.State.{Transfer, idle, running, ended, Body, with_transfer}
use Rattle.model.specs.Objects.{Content, simple, rows, record_number, register, Own, own_objects, device_object, profile_named, record_number_named, Meaning, known, unknown, among_own, meaning, serves, Parameter, Request, Result, granted, begun, denied, good_parameter, method_invoked, Turn, after_read, continued}
use Rattle.model.proofs.ListLaws.{both, both_true, by_test}

-- What is to be shown of the meaning of a name: of each own object, where it bears the name; and of what the name means besides.
data Each (P : Meaning → Type 0) (n : Name) (e : Meaning) : List Own → Type 0 where
  besides : P e → Each P n e []
  bears :
      {o : Own} {os : List Own}
      → (same_name o.name n ≡ true → P (known o.object))
      → (same_name o.name n ≡ false → Each P n e os)
      → Each P n e (o ∷ os)

among : (P : Meaning → Type 0) {n : Name} {e : Meaning} (os : List Own) → Each P n e os → P (among_own n os e)
among P [] (besides x) = x
among P {n} (o ∷ os) (bears x y) = by_test P (same_name o.name n) x (λ h. among P os (y h))

-- Names.

-- Which name a content goes with: the rows with the profile's, the record number with its own, a register's value with the name
-- of that register.
abbrev pub Tells : Content → Name → List Register → Type 0
Tells (simple x) n rs = Unit {0}
Tells rows n rs = same_name profile_named n ≡ true
Tells record_number n rs = same_name record_number_named n ≡ true
Tells (register r) n rs = (same_name profile_named n ≡ false) × (given n rs ≡ true) × (r ≡ bearing n rs)

abbrev pub Means : Meaning → Name → List Register → Type 0
Means unknown n rs = Unit {0}
Means (known o) n rs = Tells o.content n rs

pub meaning_tells : (c : Client) (n : Name) (rs : List Register) → Means (meaning c n rs) n rs
meaning_tells Verification n rs = among (λ w. Means w n rs) (device_object ∷ []) (bears (λ _. tt) λ _. besides tt)
meaning_tells (Ciphering Han) n rs =
    among (λ w. Means w n rs) own_objects
    (bears (λ _. tt) λ _.
    bears (λ _. tt) λ _.
    bears (λ _. tt) λ _.
    bears (λ _. tt) λ _.
    bears (λ h. h) λ h.
    bears (λ i. i) λ _.
    besides (by_test (λ w. Means w n rs) (given n rs) (λ g. (h, g, refl)) (λ _. tt)))

-- Methods.

-- where a method changes a body, there is method 1 alone
abbrev one_method : Content → (methods : ℕ) → Bool
one_method (simple x) j = true
one_method rows j = eqb j 1
one_method record_number j = eqb j 1
one_method (register r) j = true

own_methods : every (λ i o. one_method o.object.content o.object.methods) 0 own_objects ≡ true
own_methods = refl

abbrev OneMethod : Meaning → Type 0
OneMethod unknown = Unit {0}
OneMethod (known o) = one_method o.content o.methods ≡ true

each_method : (n : Name) {e : Meaning} → OneMethod e → (i : ℕ) (os : List Own) → every (λ i o. one_method o.object.content o.object.methods) i os ≡ true
    → Each OneMethod n e os
each_method n x i [] t = besides x
each_method n x i (o ∷ os) t =
    let h = both (one_method o.object.content o.object.methods) _ t in
    bears (λ _. h.0) (λ _. each_method n x (suc i) os h.1)

meaning_method : (c : Client) (n : Name) (rs : List Register) → OneMethod (meaning c n rs)
meaning_method Verification n rs = among OneMethod (device_object ∷ []) (each_method n tt 0 (device_object ∷ []) refl)
meaning_method (Ciphering Han) n rs =
    among OneMethod own_objects (each_method n (by_test OneMethod (given n rs) (λ _. refl) (λ _. tt)) 0 own_objects own_methods)

-- What a granted ACTION was on, by the content of the object.
abbrev pub Acts : Content → Name → ℕ → Type 0
Acts (simple x) n k = Unit {0}
Acts rows n k = same_name profile_named n && eqb k 1 ≡ true
Acts record_number n k = same_name record_number_named n && eqb k 1 ≡ true
Acts (register r) n k = Unit {0}

abbrev pub ActsBy : Meaning → Result → Name → ℕ → Type 0
ActsBy unknown r n k = Unit {0}
ActsBy (known o) (granted d) n k = Acts o.content n k
ActsBy (known o) (begun t d) n k = Unit {0}
ActsBy (known o) (denied c) n k = Unit {0}

only_method : (j k : ℕ) → eqb j 1 ≡ true → serves j k ≡ true → eqb k 1 ≡ true
only_method j k e s =
    let h = both (leb 1 k) (leb k j) s in
    let a = leb-true 1 k h.0 in
    let b = leb-true k j h.1 in
    let c = eqb-true j 1 e in
    eq-eqb k 1 (omega (arith, a, b, c))

served_acts : (x : Content) (j k : ℕ) (n : Name) (rs : List Register) → Tells x n rs → one_method x j ≡ true → serves j k ≡ true → Acts x n k
served_acts (simple y) j k n rs t e s = tt
served_acts rows j k n rs t e s = both_true t (only_method j k e s)
served_acts record_number j k n rs t e s = both_true t (only_method j k e s)
served_acts (register r) j k n rs t e s = tt

-- what is granted is served
invoked_acts : (q : Request) (k : ℕ) (v : Parameter) (n : Name) (rs : List Register) (w : Meaning) → Means w n rs → OneMethod w → ActsBy w (method_invoked q k v w) n k
unfolding method_invoked
invoked_acts q k v n rs unknown t e = tt
invoked_acts q k v n rs (known o) t e = go (not (eqb q.class o.class)) (serves o.methods k) refl (good_parameter v)
  where
    go : (x y : Bool) → serves o.methods k ≡ y → (z : Bool)
        → ActsBy (known o) (cond x (denied 9) (cond (not y) (denied 3) (cond z (granted []) (denied 12)))) n k
    go true y s z = tt
    go false false s z = tt
    go false true s true = served_acts o.content o.methods k n rs t e s
    go false true s false = tt

pub action_acts : (q : Request) (k : ℕ) (v : Parameter) (rs : List Register)
    → ActsBy (meaning q.client q.name rs) (method_invoked q k v (meaning q.client q.name rs)) q.name k
action_acts q k v rs =
    invoked_acts q k v q.name rs (meaning q.client q.name rs) (meaning_tells q.client q.name rs) (meaning_method q.client q.name rs)

-- Reads.

pub read_moves : (c : Client) (r : Result) (b : Body) → after_read c r b ≡ with_transfer (after_read c r b).transfer b
read_moves Verification r b = refl
read_moves (Ciphering Han) r b = refl

pub block_moves : (i n : ℕ) (b : Body) (t : Transfer) → (continued i n b t).body ≡ with_transfer (continued i n b t).body.transfer b
block_moves i n b idle = refl
block_moves i n b (running x k) = by_test (λ (u : Turn). u.body ≡ with_transfer u.body.transfer b) (eqb n k) (λ _. refl) (λ _. refl)
block_moves i n b ended = refl
