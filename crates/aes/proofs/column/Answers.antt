-- The table has the columns of the substitutes.
use mathlib.Core.Path.{◌∙◌}
use Prim.Native.Nat.{◌<◌, ◌^◌}
use borrow.Author.Rules.{rules}
use lib.ListN.{get_or}
use Rattle.aes.proofs.ColumnLaws.{column_is, four_bytes}
use Rattle.aes.proofs.column.Goals as goal

pub returns : goal.returns
returns c =
    let t = c.columns.result.now in
    let f : get_or t c.args.b 0 < 2 ^ 32 = search rules in
    c.to_le_bytes.ensures ∙ four_bytes (get_or t c.args.b 0) f ∙ column_is t c.args.b c.columns.ensures
