-- Four columns, four calls.
use Rattle.aes.proofs.Four.{same4}
use Rattle.aes.proofs.add_round_key.Goals as goal

pub returns : goal.returns
returns c =
    same4 c.xor_word.ensures c.xor_word-2.ensures c.xor_word-3.ensures c.xor_word-4.ensures
