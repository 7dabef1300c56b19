-- The table is the printed one.
use mathlib.Core.Path.{refl}
use Rattle.aes.specs.Sbox.{sbox_table}
use Rattle.aes.proofs.substitutes.Goals as goal

pub returns : goal.returns
unfolding sbox_table
returns c = refl
