-- Eleven round keys, each held.
use borrow.Author.Rules.{rules}
use mathlib.Core.List.{[]}
use lib.ListN.{get_or}
use Rattle.aes.specs.Held.{held_schedule, by_columns}
use Rattle.aes.proofs.HeldLaws.{all_of}
use Rattle.aes.proofs.held_schedule.Goals as goal

pub returns : goal.returns
unfolding held_schedule
returns c =
    all_of 11 0 (λ i. by_columns (get_or c.args.w i [])) c.map.result c.map.ensures.items.long (λ k e m. let g = c.map.ensures.items.at k [] e m in search rules)
