use mathlib.Core.Path.{◌≡◌}
use Rattle.ghash.specs.Hash.{blocks, ghash_from}
use Rattle.ghash.proofs.Factor.absorb_all.Given as goal

-- the blocks that are still to come take the block so far to the whole hash
abbrev pub invariant-loop-part : goal.invariant-loop-part
invariant-loop-part l =
    (l.part-iterator.size ≡ 16)
    × (ghash_from l.self.block l.acc (blocks l.part-iterator.rest.now) ≡ ghash_from l.self.block l.fn.y (blocks l.s))
