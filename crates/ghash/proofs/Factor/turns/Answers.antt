-- The table's block at n is what the four bits of n give; four shifts of z are added.
use mathlib.Core.Path.{ap₂}
use lib.Bits.{bit_xor}
use Rattle.ghash.proofs.NibbleLaws.{product_at}
use Rattle.ghash.proofs.Factor.turns.Goals as goal

pub returns : goal.returns
returns c = ap₂ bit_xor (product_at _ _ _ c.args.self.now.right c.requires) c.times_x4.ensures
