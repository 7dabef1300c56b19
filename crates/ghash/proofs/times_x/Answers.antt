-- R is added where the lowest bit is 1.
use native.Mathlib.Omega.{arith}
use mathlib.Core.Path.{◌≡◌}
use Prim.Native.Nat.{ℕ, ◌%◌}
use lib.Bits.{xor_zero_r}
use Rattle.gf2.specs.Shift.{step}
use Rattle.ghash.specs.Product.{R}
use Rattle.ghash.proofs.times_x.Goals as goal

one : (b : ℕ) → (b % 2 ≡ 0 → ⊥) → b % 2 ≡ 1
one b h = omega arith

pub returns-then-b-eq0 : goal.returns-then-b-eq0
unfolding step
returns-then-b-eq0 c = simp (c.if-b-eq0.true, xor_zero_r)

pub returns-else-b-eq0 : goal.returns-else-b-eq0
unfolding step R
returns-else-b-eq0 c = simp (one c.args.b c.if-b-eq0.false)
