-- The parts are hashed one after the other, under the subkey.
use mathlib.Core.Path.{ap, ◌∙◌}
use mathlib.Core.List.{[], ◌∷◌, ◌++◌}
use Prim.Native.Nat.{ℕ}
use Rattle.ghash.specs.Hash.{blocks, ghash}
use Rattle.ghash.proofs.HashLaws.{joined}
use Rattle.ghash.proofs.hash_parts.Goals as goal

pub returns : goal.returns
returns c =
    let s = c.args in
    joined _ _ _ s.n _ (blocks s.a.now) (blocks s.c.now) c.absorb_all-x.ensures c.absorb_all-y.ensures c.times.ensures
    ∙ ap (λ (h : ℕ). ghash h (blocks s.a.now ++ (blocks s.c.now ++ (s.n ∷ [])))) c.of-subkey.ensures
