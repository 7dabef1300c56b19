-- The three calls in their order.
use Rattle.gctr.specs.Gctr.{stream_block}
use Rattle.gctr.proofs.stream_block.Goals as goal

pub returns : goal.returns
unfolding stream_block
returns c =
    simp (c.bytes_of.ensures, c.encrypt_block.ensures, c.counter_block.ensures)
