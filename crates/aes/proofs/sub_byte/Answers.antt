-- The table is the printed one, so its entry is the substitute.
use Rattle.aes.specs.Sbox.{sbox}
use Rattle.aes.proofs.sub_byte.Goals as goal

pub returns : goal.returns
unfolding sbox
returns c = rw c.substitutes.ensures
