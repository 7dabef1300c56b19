-- Without the top bit the double fits; with it, the double of the rest is the double cut to a byte.
use borrow.Author.Tests.{lt-ltb, le-ltb}
use native.Mathlib.Omega.{arith}
use mathlib.Core.Path.{◌≡◌}
use Prim.Native.Nat.{◌-◌, ◌*◌, ◌%◌}
use Rattle.aes.specs.Field.{xtime}
use Rattle.aes.proofs.times_x.Goals as goal

pub returns-then-a-lt128 : goal.returns-then-a-lt128
unfolding xtime
returns-then-a-lt128 c = simp (lt-ltb _ _ c.if-a-lt128.true)

pub returns-else-a-lt128 : goal.returns-else-a-lt128
unfolding xtime
returns-else-a-lt128 c =
    let a = c.args.a in
    let e : (a - 128) * 2 ≡ a * 2 % 256 = omega arith in simp (le-ltb _ _ c.if-a-lt128.false, e)
