-- Laws of a list of tests: it is gone through stretch by stretch, and what it comes to names the first test that fails.
use mathlib.Core.Path.{◌≡◌, refl, sym, ap, ◌∙◌}
use mathlib.Core.Bool.{Bool, true, false, cond}
use mathlib.Core.List.{List, [], ◌∷◌, ◌++◌}
use Prim.Native.Nat.{ℕ}
use native.Mathlib.Omega.{arith}
use Rattle.model.specs.State.{Model}
use Rattle.model.specs.Calls.{Lent}
use Rattle.hdlc.proofs.TestLaws.{by_test}
use Rattle.call_tests.specs.declared.CallTest.{CallTest}
use Rattle.call_tests.specs.Finding.{Finding}
use Rattle.std.specs.Prelude.{Ok, Err}
use Rattle.call_tests.specs.Tests.{call_fails, call_tests, first_failing, found}
use Rattle.call_tests.specs.Claims.{AllPass, none, more, FirstOf, Named}
use Rattle.call_tests.specs.Road.{or_else}

pub passes_never : {t : CallTest} → ◌≡◌ {A = Finding} (Ok tt) (Err t) → ⊥
passes_never {t} q = let z : ◌≡◌ {A = ℕ} 0 1 = cc in omega arith

same_test : {t u : CallTest} → ◌≡◌ {A = Finding} (Err t) (Err u) → t ≡ u
same_test {t} {u} q = cc

-- a test in front of a stretch
pub else_cond : (b : Bool) (t : CallTest) (x y : Finding) → or_else (cond b (Err t) x) y ≡ cond b (Err t) (or_else x y)
else_cond true t x y = refl
else_cond false t x y = refl

-- three of them
pub else_three : (b c d : Bool) (t u v : CallTest) (x y : Finding)
    → or_else (cond b (Err t) (cond c (Err u) (cond d (Err v) x))) y ≡ cond b (Err t) (cond c (Err u) (cond d (Err v) (or_else x y)))
else_three true c d t u v x y = refl
else_three false true d t u v x y = refl
else_three false false true t u v x y = refl
else_three false false false t u v x y = refl

pub else_none : (x : Finding) → or_else x (Ok tt) ≡ x
else_none (Err t) = refl
else_none (Ok _) = refl

-- one stretch after another
pub in_stretches : (g : CallTest → Bool) (xs ys : List CallTest) → first_failing g (xs ++ ys) ≡ or_else (first_failing g xs) (first_failing g ys)
unfolding first_failing
in_stretches g [] ys = refl
in_stretches g (x ∷ xs) ys = ap (λ r. cond (g x) (Err x) r) (in_stretches g xs ys) ∙ sym (else_cond (g x) x (first_failing g xs) (first_failing g ys))

module _ (m : Model) (a : Lent) where
  fails_first : (t : CallTest) (ts : List CallTest) → call_fails m a t ≡ true → first_failing (call_fails m a) (t ∷ ts) ≡ Err t
  unfolding first_failing
  fails_first t ts e = ap (λ (b : Bool). cond b (Err t) (first_failing (call_fails m a) ts)) e

  passes_first : (t : CallTest) (ts : List CallTest) → call_fails m a t ≡ false → first_failing (call_fails m a) (t ∷ ts) ≡ first_failing (call_fails m a) ts
  unfolding first_failing
  passes_first t ts e = ap (λ (b : Bool). cond b (Err t) (first_failing (call_fails m a) ts)) e

  passes_none : first_failing (call_fails m a) [] ≡ Ok tt
  unfolding first_failing
  passes_none = refl

  -- a test that is named fails, and all before it pass
  names_first : (ts : List CallTest) {t : CallTest} → first_failing (call_fails m a) ts ≡ Err t → FirstOf m a ts t
  names_first [] q = absurd (passes_never (sym passes_none ∙ q))
  names_first (x ∷ xs) {t} q =
      by_test (call_fails m a x)
      (λ e.
      let p : x ≡ t = same_test (sym (fails_first x xs e) ∙ q) in
      record { before = []; after = xs; order = ap (λ y. y ∷ xs) p; passed = none; failed = rw (sym p) e })
      (λ e.
      let n = names_first xs (sym (passes_first x xs e) ∙ q) in
      record { before = x ∷ n.before; after = n.after; order = ap (λ ys. x ∷ ys) n.order; passed = more x e n.passed; failed = n.failed })

  all_pass : (ts : List CallTest) → first_failing (call_fails m a) ts ≡ Ok tt → AllPass m a ts
  all_pass [] q = none
  all_pass (x ∷ xs) q =
      by_test (call_fails m a x) (λ e. absurd (passes_never (sym q ∙ fails_first x xs e))) (λ e. more x e (all_pass xs (sym (passes_first x xs e) ∙ q)))

  -- a test that fails behind those that pass is named
  past : {xs : List CallTest} (t : CallTest) (ys : List CallTest) → AllPass m a xs → call_fails m a t ≡ true → first_failing (call_fails m a) (xs ++ t ∷ ys) ≡ Err t
  past t ys none f = fails_first t ys f
  past t ys (more x {ts} e p) f = passes_first x (ts ++ t ∷ ys) e ∙ past t ys p f

  first_of : (t : CallTest) → found m a ≡ Err t → FirstOf m a call_tests t
  unfolding found
  first_of t q = names_first call_tests q

  only_first : (t : CallTest) → FirstOf m a call_tests t → found m a ≡ Err t
  unfolding found
  only_first t n = ap (first_failing (call_fails m a)) n.order ∙ past t n.after n.passed n.failed

  none_fails : found m a ≡ Ok tt → AllPass m a call_tests
  unfolding found
  none_fails q = all_pass call_tests q

pub named : Named
named = record { first = first_of; only = only_first; none = none_fails }
