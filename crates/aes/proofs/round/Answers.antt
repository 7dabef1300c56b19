-- The four transformations, the first two in the other order.
use Rattle.aes.specs.Cipher.{round_of}
use Rattle.aes.proofs.round.Goals as goal

pub returns : goal.returns
unfolding round_of
returns c =
    simp (c.add_round_key.ensures, c.mix_substitutes.ensures, c.shift_rows.ensures)
