-- The claims of specs/Steps. Three laws tie the step, which takes away, to counters told by adding; the rest follows from them.
use Rattle.std.proofs.Common.{◌≡◌, ℕ, zero, suc, ◌+◌, ◌-◌, ◌%◌, ◌^◌, ◌<◌, ◌≤◌, Bool, true, false, cond, ◌&&◌, ltb, leb, ◌⊎◌, sym, refl, ap, ◌∙◌, inl, inr, arith, ltb-false, ltb-true, le-ltb, lt-ltb, le-leb, leb-false, leb-true}
use native.Mathlib.Numerals.{unary_clauses}
use borrow.Author.Tests.{lt-leb}
use Rattle.model.proofs.ListLaws.{both}
use Rattle.counters.specs.Window.{step_to, window_size, in_window, inner_allowed}
use Rattle.counters.specs.Steps.{steps_on, StepLeads, StepsInside, StepsOutside, WindowBySteps, passing, Exactly180, NotAgain, StepsBetween, InnerBySteps, PlainBelow, ExampleOfSteps}

step_small : (accepted counter : ℕ) → step_to accepted counter < 2 ^ 32
unfolding step_to
step_small accepted counter = omega arith

step_leads : (accepted counter : ℕ) → counter < 2 ^ 32 → counter ≡ steps_on accepted (step_to accepted counter)
unfolding step_to
step_leads accepted counter h = omega arith

step_on : (accepted steps : ℕ) → steps < 2 ^ 32 → step_to accepted (steps_on accepted steps) ≡ steps
unfolding step_to
step_on accepted steps h = omega arith

pub step_is : StepLeads
step_is = record { small = step_small; leads = step_leads; only = step_on }

-- The window.

-- its test, of a step
abbrev is_step : ℕ → Bool
is_step s = leb 1 s && leb s window_size

step_passes : (s : ℕ) → 1 ≤ s → s ≤ window_size → is_step s ≡ true
step_passes s least most = rw (le-leb 1 s least, le-leb s window_size most)

step_fails : (s : ℕ) → (1 ≤ s → window_size < s) → is_step s ≡ false
step_fails s off = go (leb 1 s) refl
  where
    go : (b : Bool) → leb 1 s ≡ b → is_step s ≡ false
    go false e = rw e
    go true e = rw (e, lt-leb s window_size (off (leb-true 1 s e)))

module _ (accepted counter : ℕ) where
  abbrev the_step : ℕ
  the_step = step_to accepted counter

  step_of : (steps : ℕ) → steps < 2 ^ 32 → counter ≡ steps_on accepted steps → steps ≡ the_step
  step_of steps h e = rw e (sym (step_on accepted steps h))

  inside_passes : StepsInside accepted counter → in_window accepted counter ≡ true
  unfolding in_window
  inside_passes w = rw (← step_of w.steps (omega arith) w.counts) (step_passes w.steps w.least w.most)

  outside_fails : StepsOutside accepted counter → in_window accepted counter ≡ false
  unfolding in_window
  outside_fails b = rw (← step_of b.steps b.once b.counts) (step_fails b.steps (off b.off))
    where
      off : (b.steps ≡ 0) ⊎ (window_size < b.steps) → 1 ≤ b.steps → window_size < b.steps
      off (inl e) h = omega arith
      off (inr far) h = far

  one_of_both : counter < 2 ^ 32 → StepsInside accepted counter ⊎ StepsOutside accepted counter
  one_of_both h = go (leb 1 the_step) (leb the_step window_size) refl refl
    where
      outside : (the_step ≡ 0) ⊎ (window_size < the_step) → StepsOutside accepted counter
      outside off = record { steps = the_step; off = off; once = step_small accepted counter; counts = step_leads accepted counter h }

      go : (least most : Bool) → leb 1 the_step ≡ least → leb the_step window_size ≡ most → StepsInside accepted counter ⊎ StepsOutside accepted counter
      go false most l m = inr (outside (inl (omega (arith, leb-false 1 the_step l))))
      go true false l m = inr (outside (inr (leb-false the_step window_size m)))
      go true true l m = inl (record { steps = the_step; least = leb-true 1 the_step l; most = leb-true the_step window_size m; counts = step_leads accepted counter h })

pub window_by_steps : WindowBySteps
window_by_steps = record { passes = inside_passes; fails = outside_fails; either = one_of_both }

-- Counting.

-- a stretch and what comes after it
passing_split : (p : ℕ → Bool) (m n : ℕ) → passing p (m + n) ≡ passing p m + passing (λ i. p (m + i)) n
unfolding passing
passing_split p m zero = simp unary_clauses refl
passing_split p m (suc n) = simp unary_clauses (rw (passing_split p m n) (omega arith))

passing_same : (p q : ℕ → Bool) (n : ℕ) → ((i : ℕ) → i < n → p i ≡ q i) → passing p n ≡ passing q n
unfolding passing
passing_same p q zero same = refl
passing_same p q (suc n) same = rw (passing_same p q n (λ i h. same i (omega arith)), same n (omega arith))

-- where the test is one answer, all or none
passing_const : (b : Bool) (n : ℕ) → passing (λ i. b) n ≡ cond b n 0
unfolding passing
passing_const true zero = refl
passing_const true (suc n) = rw (passing_const true n) (omega arith)
passing_const false zero = refl
passing_const false (suc n) = rw (passing_const false n)

-- counted from any counter on, round to it again, as many pass
passing_round : (p : ℕ → Bool) (start : ℕ) → start < 2 ^ 32 → passing p (2 ^ 32) ≡ passing (λ i. p (steps_on start i)) (2 ^ 32)
passing_round p start h =
    let rest = 2 ^ 32 - start in
    let q : ℕ → Bool = λ i. p (steps_on start i) in
    let one : passing p (start + rest) ≡ passing p start + passing (λ i. p (start + i)) rest = passing_split p start rest in
    let two : passing q (rest + start) ≡ passing q rest + passing (λ i. q (rest + i)) start = passing_split q rest start in
    let high : passing (λ i. p (start + i)) rest ≡ passing q rest = passing_same _ _ rest (λ i k. ap p (omega arith)) in
    let low : passing p start ≡ passing (λ i. q (rest + i)) start = passing_same _ _ start (λ i k. ap p (omega arith)) in
    ap (passing p) (omega arith) ∙ one ∙ omega (arith, high, low) ∙ sym two ∙ ap (passing q) (omega arith)

-- of steps: not the first, then as many as the window has, then no others
passing_steps : (others : ℕ) → passing is_step (1 + (window_size + others)) ≡ window_size
passing_steps others =
    let first = passing_split is_step 1 (window_size + others) in
    let second = passing_split (λ i. is_step (1 + i)) window_size others in
    let none = passing_same is_step (λ i. false) 1 (λ i h. step_fails i (λ k. omega arith)) ∙ passing_const false 1 in
    let all = passing_same (λ i. is_step (1 + i)) (λ i. true) window_size (λ i h. step_passes (1 + i) (omega arith) (omega arith)) ∙ passing_const true window_size in
    let beyond =
    passing_same (λ i. is_step (1 + (window_size + i))) (λ i. false) others (λ i h. step_fails (1 + (window_size + i)) (λ k. omega arith)) ∙ passing_const false others in
    omega (arith, first, second, none, all, beyond)

pub exactly_180 : Exactly180
unfolding in_window step_to
exactly_180 accepted =
    let start = accepted % 2 ^ 32 in
    let steps : (i : ℕ) → i < 2 ^ 32 → step_to accepted (steps_on start i) ≡ i = λ i h. omega arith in
    passing_round (in_window accepted) start (omega arith)
    ∙ passing_same (λ i. in_window accepted (steps_on start i)) is_step (2 ^ 32) (λ i h. ap is_step (steps i h))
    ∙ passing_steps (2 ^ 32 - (1 + window_size))

-- Not again.

last_fails : (accepted : ℕ) → in_window accepted accepted ≡ false
unfolding in_window step_to
last_fails accepted = step_fails (step_to accepted accepted) (λ h. omega arith)

past_fails : (accepted near far : ℕ) → near ≤ far → far + window_size < 2 ^ 32 → in_window (steps_on accepted far) (steps_on accepted near) ≡ false
unfolding in_window step_to
past_fails accepted near far h most = step_fails (step_to (steps_on accepted far) (steps_on accepted near)) (λ k. omega arith)

pub not_again : NotAgain
not_again = record { last = last_fails; past = past_fails }

-- The inner counter.

module _ (accepted outer inner : ℕ) where
  between_allowed : StepsBetween accepted outer inner → inner_allowed accepted outer inner ≡ true
  unfolding inner_allowed
  between_allowed b =
      rw (
        ← step_of accepted inner b.inner_steps (omega arith) b.inside,
        ← step_of accepted outer b.outer_steps b.once b.around,
        le-leb 1 b.inner_steps b.least,
        lt-ltb b.inner_steps b.outer_steps b.below,
      )

  allowed_between : outer < 2 ^ 32 → inner < 2 ^ 32 → inner_allowed accepted outer inner ≡ true → StepsBetween accepted outer inner
  unfolding inner_allowed
  allowed_between small small' e =
      let tests = both (leb 1 (step_to accepted inner)) (ltb (step_to accepted inner) (step_to accepted outer)) e in
      record {
        inner_steps = step_to accepted inner;
        outer_steps = step_to accepted outer;
        least = leb-true 1 (step_to accepted inner) tests.0;
        below = ltb-true (step_to accepted inner) (step_to accepted outer) tests.1;
        once = step_small accepted outer;
        inside = step_leads accepted inner small';
        around = step_leads accepted outer small;
      }

pub inner_by_steps : InnerBySteps
inner_by_steps = record { allowed = between_allowed; only = allowed_between }

-- Below the overflow.

plain_passes : (accepted counter : ℕ) → counter < 2 ^ 32 → accepted < counter → counter ≤ accepted + window_size → in_window accepted counter ≡ true
plain_passes accepted counter small h k =
    inside_passes accepted counter (record { steps = counter - accepted; least = omega arith; most = omega arith; counts = omega arith })

plain_window : (accepted counter : ℕ) → accepted + window_size < 2 ^ 32 → counter < 2 ^ 32 → in_window accepted counter ≡ ltb accepted counter && leb counter (accepted + window_size)
unfolding in_window step_to
plain_window accepted counter h k = go (ltb accepted counter) (leb counter (accepted + window_size)) refl refl
  where
    s : ℕ
    s = step_to accepted counter

    go : (above near : Bool) → ltb accepted counter ≡ above → leb counter (accepted + window_size) ≡ near → is_step s ≡ above && near
    go false near a n = step_fails s (λ i. omega (arith, ltb-false accepted counter a))
    go true false a n = step_fails s (λ i. omega (arith, ltb-true accepted counter a, leb-false counter (accepted + window_size) n))
    go true true a n = step_passes s (omega (arith, ltb-true accepted counter a)) (omega (arith, ltb-true accepted counter a, leb-true counter (accepted + window_size) n))

plain_inner : (accepted outer inner : ℕ) → accepted < outer → outer < 2 ^ 32 → inner < 2 ^ 32 → inner_allowed accepted outer inner ≡ ltb accepted inner && ltb inner outer
unfolding inner_allowed step_to
plain_inner accepted outer inner h k k' = go (ltb accepted inner) (ltb inner outer) refl refl
  where
    i : ℕ
    i = step_to accepted inner

    o : ℕ
    o = step_to accepted outer

    -- an inner counter that is not above the last accepted
    low : inner ≤ accepted → (b : Bool) → leb 1 i ≡ b → leb 1 i && ltb i o ≡ false
    low a false e = rw e
    low a true e = rw (e, le-ltb i o (omega (arith, leb-true 1 i e)))

    go : (above below : Bool) → ltb accepted inner ≡ above → ltb inner outer ≡ below → leb 1 i && ltb i o ≡ above && below
    go false below a b = low (ltb-false accepted inner a) (leb 1 i) refl
    go true false a b = rw (le-leb 1 i (omega (arith, ltb-true accepted inner a)), le-ltb i o (omega (arith, ltb-true accepted inner a, ltb-false inner outer b)))
    go true true a b = rw (le-leb 1 i (omega (arith, ltb-true accepted inner a)), lt-ltb i o (omega (arith, ltb-true accepted inner a, ltb-true inner outer b)))

pub plain_below : PlainBelow
plain_below = record { still = plain_passes; window = plain_window; inner = plain_inner }

-- The example.

pub example_of_steps : ExampleOfSteps
unfolding step_to in_window
example_of_steps = record { step = refl; passes = refl; fails = refl }
