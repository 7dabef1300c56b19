-- Four bytes, each substituted.
use borrow.Author.Rules.{rules}
use Rattle.aes.specs.Sbox.{sbox}
use lib.ListN.{get_or}
use Rattle.aes.specs.Held.{each_from}
use Rattle.aes.proofs.HeldLaws.{all_of}
use Rattle.aes.proofs.sub_word.Goals as goal

pub returns : goal.returns
unfolding each_from
returns c =
    all_of 4 0 (λ i. sbox (get_or c.args.a i 0)) c.map.result c.map.ensures.items.long (λ k e m. let g = c.map.ensures.items.at k 0 e m in search rules)
