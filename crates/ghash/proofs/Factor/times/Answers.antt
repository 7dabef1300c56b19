-- The last word's turns start from 0, and the first word's go on from there.
use Rattle.ghash.proofs.NibbleLaws.{by_words}
use Rattle.ghash.proofs.Factor.times.Goals as goal

pub returns : goal.returns
returns c = by_words c.args.x c.args.self.now.block _ _ c.word_turns-last.ensures c.word_turns.ensures
