-- The words in the order in which they are made.
use Rattle.aes.specs.KeyExpansion.{first_word, next_key}
use Rattle.aes.proofs.next_key.Goals as goal

pub returns : goal.returns
unfolding next_key first_word
returns c =
    simp (
      c.xor_word-d.ensures,
      c.xor_word-c.ensures,
      c.xor_word-b.ensures,
      c.xor_word-a.ensures,
      c.xor_word.ensures,
      c.sub_word-n.ensures,
    )
