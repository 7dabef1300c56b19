-- Which counters of a client are accepted (document 01, "The envelope and its counters", with 02's Q-3): the step from the last
-- accepted to a counter, the window of an envelope's, the test of a proof's inner one, and the last accepted set. What is claimed of
-- the window stands in Steps.
use Rattle.std.specs.Prelude.{ℕ, ◌+◌, ◌-◌, ◌%◌, ◌^◌, Bool, ◌&&◌, nat_le, nat_lt}
use Rattle.model.specs.declared.Counters.{Counters}

-- "The step from the last accepted to the received counter is taken modulo 2^32"
unfoldable pub step_to : (accepted counter : ℕ) → ℕ
step_to accepted counter = (counter + (2 ^ 32 - accepted % 2 ^ 32)) % 2 ^ 32

-- the greatest step
abbrev pub window_size : ℕ
window_size = 180

-- "and must be 1 to 180"; a counter outside is refusal 7
unfoldable pub in_window : (accepted counter : ℕ) → Bool
in_window accepted counter = nat_le 1 (step_to accepted counter) && nat_le (step_to accepted counter) window_size

-- "A proof's inner step must be 1 or more and below its envelope's"; else the proof is wrong
unfoldable pub inner_allowed : (accepted outer inner : ℕ) → Bool
inner_allowed accepted outer inner = nat_le 1 (step_to accepted inner) && nat_lt (step_to accepted inner) (step_to accepted outer)

-- "becomes the last accepted"
unfoldable pub accepting : Counters → ℕ → Counters
accepting c counter = record { accepted = counter; sent = c.sent }
