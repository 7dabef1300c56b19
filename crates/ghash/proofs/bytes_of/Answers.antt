-- The bytes of a block are those of its two words.
use mathlib.Core.Path.{◌∙◌}
use Prim.Native.Nat.{◌<◌, ◌^◌}
use borrow.Author.Rules.{rules}
use Rattle.ghash.proofs.BytesLaws.{high_bytes}
use Rattle.ghash.proofs.bytes_of.Goals as goal

pub returns : goal.returns
returns c =
    let f : c.args.b < 2 ^ 128 = search rules in c.to_be_bytes.ensures ∙ high_bytes c.args.b f
