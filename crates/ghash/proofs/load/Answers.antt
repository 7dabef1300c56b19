-- Sixteen bytes spell the block, and zeros stand for those past the end.
use mathlib.Core.Path.{ap, ◌∙◌}
use lib.ListN.{get_or}
use mathlib.Core.List.{List}
use Prim.Native.Nat.{ℕ}
use Rattle.std.proofs.lemmas.List.{get_or-take}
use Rattle.ghash.proofs.BytesLaws.{spelled_by}
use Rattle.ghash.proofs.load.Goals as goal

pub returns-in-Some : goal.returns-in-Some
returns-in-Some c =
    let s = c.args.s.now in
    c.from_be_bytes.ensures
    ∙ spelled_by _ s (λ k h. ap (λ (xs : List ℕ). get_or xs k 0) c.in-Some.ensures.cases.same ∙ get_or-take 16 s k 0 h)

pub returns-in-None : goal.returns-in-None
returns-in-None c = c.from_be_bytes-in-None.ensures ∙ spelled_by _ c.args.s.now c.padded.ensures
