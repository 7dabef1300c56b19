-- Eleven round keys, each read back.
use borrow.Author.Rules.{rules}
use Rattle.aes.specs.Held.{schedule_of, by_columns, columns_of}
use mathlib.Core.List.{[]}
use lib.ListN.{get_or}
use Rattle.aes.proofs.HeldLaws.{all_of}
use Rattle.aes.proofs.schedule.Goals as goal

pub returns : goal.returns
unfolding schedule_of
returns c =
    all_of 11 0 (λ i. columns_of (get_or c.args.k i (by_columns []))) c.map.result c.map.ensures.items.long (λ k e m. let g = c.map.ensures.items.at k (by_columns []) e m in search rules)
