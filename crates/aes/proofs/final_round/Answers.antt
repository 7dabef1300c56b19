-- The three transformations of the final round in their order.
use Rattle.aes.specs.Cipher.{final_round}
use Rattle.aes.proofs.final_round.Goals as goal

pub returns : goal.returns
unfolding final_round
returns c =
    simp (c.add_round_key.ensures, c.shift_rows.ensures, c.sub_bytes.ensures)
