-- What writing a block promises: the model's answer, and whether it is the last.
use Rattle.std.specs.Prelude.{◌≡◌, List, ℕ}
use Rattle.wire.specs.Wrote.{Wrote}
use Rattle.model.specs.Objects.{block_answer, is_last}
use Rattle.blocks.specs.declared.Block.{Block}

-- block k of the data d, to a request with this invoke byte, was written into a buffer that held l
pub record WroteBlock (invoke k : ℕ) (d l : List ℕ) (at : ℕ) (m : List ℕ) (r : Block) : Type 0 where
  pub wrote : Wrote l at m r.next (block_answer invoke k d)
  pub last : r.last ≡ is_last k d
