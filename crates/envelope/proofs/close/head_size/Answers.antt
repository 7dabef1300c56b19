-- `envelope::close::head_size` meets its contract.
use native.Mathlib.Omega.{arith}
use mathlib.Core.Path.{◌≡◌, ap}
use Prim.Native.Nat.{ℕ, ◌+◌}
use lib.ListN.{length}
use Rattle.wire.specs.Numbers.{length_field}
use Rattle.wire.proofs.LengthLaws.{field_size}
use Rattle.envelope.specs.Layout.{counted_length}
use Rattle.envelope.proofs.close.head_size.Goals as goal

pub overflow_add-result : goal.overflow_add-result
overflow_add-result c = omega (arith, c.length_size.ensures, field_size (c.args.n + 17))

pub returns : goal.returns
returns c =
    let n = c.args.n in
    let e : n + 17 ≡ counted_length n = omega arith in
    omega (arith, c.length_size.ensures, ap (λ (k : ℕ). length (length_field k)) e)
