-- `image::part::firsts_at` meets its contract: as many places as the array has.
use mathlib.Core.Path.{subst}
use Prim.Native.Nat.{ℕ}
use lib.ListN.{length-replicate}
use Rattle.image.specs.Lists.{Firsts}
use Rattle.image.proofs.part.firsts_at.Goals as goal

pub returns : goal.returns
returns g c =
    let a = c.args in
    subst (λ (k : ℕ). Firsts g.T.Part.part k a.count a.s.now a.at c.fill.new.items) (length-replicate g.row.N a.blank) c.fill.ensures
