use mathlib.Core.Path.{◌≡◌}
use mathlib.Core.Bool.{◌&&◌}
use lib.Dec.{eqb}
use lib.ListN.{length}
use Rattle.wire.specs.Reading.{same_bytes}
use Rattle.gcm_tag.proofs.is_same.Given as goal

-- what was gathered, and the bytes that are still to come, decide
abbrev pub invariant-loop-a : goal.invariant-loop-a
invariant-loop-a l =
    let p = l.a-iterator.a.rest.now in
    let q = l.a-iterator.b.rest.now in (length p ≡ length q) × (eqb l.d 0 && same_bytes p q ≡ same_bytes l.fn.r l.t)
