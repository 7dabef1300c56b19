-- `envelope::close::put_head` meets its contract: four writes, one after the other.
use mathlib.Core.Path.{◌≡◌, ap}
use mathlib.Core.List.{append_assoc}
use Prim.Native.Nat.{ℕ, ◌+◌}
use native.Mathlib.Omega.{arith}
use borrow.Author.Rules.{rules}
use lib.ListN.{length}
use Rattle.wire.specs.Numbers.{length_field}
use Rattle.wire_write.proofs.WroteLaws.{then}
use Rattle.envelope.specs.Layout.{counted_length, head}
use Rattle.envelope.proofs.close.put_head.Goals as goal

-- the code's sum is the definition's
same : (n : ℕ) → length_field (n + 17) ≡ length_field (counted_length n)
same n = let e : n + 17 ≡ counted_length n = omega arith in ap length_field e

pub put_length-b-requires : goal.put_length-b-requires
put_length-b-requires c = (search rules, omega (arith, ap length (same c.args.n)))

pub put-c-requires : goal.put-c-requires
put-c-requires c = omega (arith, ap length (same c.args.n))

pub put_number-requires : goal.put_number-requires
put_number-requires c = omega (arith, ap length (same c.args.n))

pub returns : goal.returns
unfolding head
returns c =
    let n = c.args.n in
    rw (← same n) (rw append_assoc at (then (then (then c.put-a.ensures c.put_length-b.ensures) c.put-c.ensures) c.put_number.ensures))
