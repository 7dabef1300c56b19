-- What is claimed of the step, of the window and of a proof's inner counter (document 02, Q-3), told by adding, where `step_to` of
-- Window takes away: for every last accepted. Proved in proofs/StepLaws.
use Rattle.std.specs.Prelude.{◌≡◌, ℕ, zero, suc, ◌+◌, ◌%◌, ◌^◌, ◌<◌, ◌≤◌, Bool, true, false, cond, ◌&&◌, ◌⊎◌, nat_le, nat_lt}
use Rattle.counters.specs.Window.{step_to, in_window, inner_allowed}

-- the counter so many steps of one after another, "from 4294967295 to 0"
abbrev pub steps_on : (counter steps : ℕ) → ℕ
steps_on counter steps = (counter + steps) % 2 ^ 32

-- The step is the one number below 2^32 by which a counter is so many steps on from the last accepted.
pub record StepLeads : Type 0 where
  pub small : (accepted counter : ℕ) → step_to accepted counter < 2 ^ 32
  pub leads : (accepted counter : ℕ) → counter < 2 ^ 32 → counter ≡ steps_on accepted (step_to accepted counter)
  pub only : (accepted steps : ℕ) → steps < 2 ^ 32 → step_to accepted (steps_on accepted steps) ≡ steps

-- The window.

-- a counter 1 to 180 steps after the last accepted
pub record StepsInside (accepted counter : ℕ) : Type 0 where
  pub steps : ℕ
  pub least : 1 ≤ steps
  pub most : steps ≤ 180
  pub counts : counter ≡ steps_on accepted steps

-- a counter that is the last accepted, or more than 180 steps after it
pub record StepsOutside (accepted counter : ℕ) : Type 0 where
  pub steps : ℕ
  pub off : (steps ≡ 0) ⊎ (180 < steps)
  pub once : steps < 2 ^ 32
  pub counts : counter ≡ steps_on accepted steps

-- the first pass, the others do not, and each counter is one of these
pub record WindowBySteps : Type 0 where
  pub passes : (accepted counter : ℕ) → StepsInside accepted counter → in_window accepted counter ≡ true
  pub fails : (accepted counter : ℕ) → StepsOutside accepted counter → in_window accepted counter ≡ false
  pub either : (accepted counter : ℕ) → counter < 2 ^ 32 → StepsInside accepted counter ⊎ StepsOutside accepted counter

-- how many numbers below a bound pass a test
unfoldable pub passing : (ℕ → Bool) → (bound : ℕ) → ℕ
passing p zero = 0
passing p (suc n) = passing p n + cond (p n) 1 0

-- of all counters exactly 180 pass
abbrev pub Exactly180 : Type 0
Exactly180 = (accepted : ℕ) → passing (in_window accepted) (2 ^ 32) ≡ 180

-- the last accepted does not; and of counters accepted in turn none that they went past, until they come round to it
pub record NotAgain : Type 0 where
  pub last : (accepted : ℕ) → in_window accepted accepted ≡ false
  pub past : (accepted near far : ℕ) → near ≤ far → far + 180 < 2 ^ 32 → in_window (steps_on accepted far) (steps_on accepted near) ≡ false

-- The inner counter.

-- an inner counter and its envelope's, both after the last accepted, the inner one nearer
pub record StepsBetween (accepted outer inner : ℕ) : Type 0 where
  pub inner_steps : ℕ
  pub outer_steps : ℕ
  pub least : 1 ≤ inner_steps
  pub below : inner_steps < outer_steps
  pub once : outer_steps < 2 ^ 32
  pub inside : inner ≡ steps_on accepted inner_steps
  pub around : outer ≡ steps_on accepted outer_steps

-- these are allowed, and no others
pub record InnerBySteps : Type 0 where
  pub allowed : (accepted outer inner : ℕ) → StepsBetween accepted outer inner → inner_allowed accepted outer inner ≡ true
  pub only :
      (accepted outer inner : ℕ)
      → outer < 2 ^ 32
      → inner < 2 ^ 32
      → inner_allowed accepted outer inner ≡ true
      → StepsBetween accepted outer inner

-- Document 01's own words: what passed by them passes, and where the window ends before the overflow, nothing else; of a proof
-- wherever its envelope's counter is the greater number.

pub record PlainBelow : Type 0 where
  -- "greater than the last accepted by at most 180"
  pub still :
      (accepted counter : ℕ)
      → counter < 2 ^ 32
      → accepted < counter
      → counter ≤ accepted + 180
      → in_window accepted counter ≡ true
  pub window :
      (accepted counter : ℕ)
      → accepted + 180 < 2 ^ 32
      → counter < 2 ^ 32
      → in_window accepted counter ≡ nat_lt accepted counter && nat_le counter (accepted + 180)
  -- "above the last accepted and below the envelope's"
  pub inner :
      (accepted outer inner : ℕ)
      → accepted < outer
      → outer < 2 ^ 32
      → inner < 2 ^ 32
      → inner_allowed accepted outer inner ≡ nat_lt accepted inner && nat_lt inner outer

-- "After 4294967290, the counter 5 passes (step 11) and 4294967290 doesn't."
pub record ExampleOfSteps : Type 0 where
  pub step : step_to 4294967290 5 ≡ 11
  pub passes : in_window 4294967290 5 ≡ true
  pub fails : in_window 4294967290 4294967290 ≡ false
