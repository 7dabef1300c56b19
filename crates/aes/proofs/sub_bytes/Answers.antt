-- Four columns, each substituted.
use borrow.Author.Rules.{rules}
use mathlib.Core.List.{[]}
use Rattle.aes.specs.Cipher.{sub_word}
use lib.ListN.{get_or}
use Rattle.aes.specs.Held.{each_from}
use Rattle.aes.proofs.HeldLaws.{all_of}
use Rattle.aes.proofs.sub_bytes.Goals as goal

pub returns : goal.returns
unfolding each_from
returns c =
    all_of 4 0 (λ i. sub_word (get_or c.args.s i [])) c.map.result c.map.ensures.items.long (λ k e m. let g = c.map.ensures.items.at k [] e m in search rules)
