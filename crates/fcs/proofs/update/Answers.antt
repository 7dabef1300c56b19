use borrow.Author.Rules.{rules}
use Rattle.fcs.proofs.CheckLaws.{by_table}
use Rattle.fcs.proofs.update.Goals as goal

pub returns : goal.returns
returns c =
    let a = c.args in
    by_table _ a.c a.b c.table.ensures (search rules)
