-- The zero block enciphered, as a block.
use Rattle.gcm.specs.Gcm.{hash_key}
use Rattle.gcm.proofs.hash_key.Goals as goal

pub returns : goal.returns
unfolding hash_key
returns c =
    simp (c.load.ensures, c.bytes_of-b.ensures, c.encrypt_block.ensures)
