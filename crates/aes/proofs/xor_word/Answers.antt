-- The code's list is the definition's.
use mathlib.Core.Path.{refl}
use Rattle.aes.specs.Field.{xor_word}
use Rattle.aes.proofs.xor_word.Goals as goal

pub returns : goal.returns
unfolding xor_word
returns c = refl
