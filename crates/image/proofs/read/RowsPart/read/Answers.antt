-- `image::read::RowsPart::read` meets its contract where too few bytes stand there: the zeros are read.
use mathlib.Core.Path.{subst}
use mathlib.Core.List.{List}
use Prim.Native.Nat.{ℕ}
use Rattle.image.specs.Codec.{Got}
use Rattle.image.specs.Layout.{rows_part}
use Rattle.image.proofs.read.RowsPart.read.Goals as goal

pub returns-clause-blank : goal.returns-clause-blank
returns-clause-blank c h = subst (λ (t : List ℕ). Got rows_part t 0 c.read_at.result) (c.bytes_or.ensures.blank h) c.read_at.ensures
