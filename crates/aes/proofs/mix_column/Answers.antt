-- The columns of the four substitutes, added in pairs.
use Rattle.aes.proofs.ColumnLaws.{mixed}
use Rattle.aes.proofs.mix_column.Goals as goal

pub returns : goal.returns
returns c =
    simp (
      c.xor_word.ensures,
      c.xor_word-y.ensures,
      c.xor_word-x.ensures,
      c.column-s.ensures,
      c.column-r.ensures,
      c.column-q.ensures,
      c.column-p.ensures,
    ) (mixed _ _ _ _)
