-- What is written are the fewest digits that hold the number, of which there are twenty at most.
use mathlib.Core.Path.{sym}
use borrow.Author.Rules.{rules}
use Rattle.diagnosis_write.proofs.DecimalLaws.{fewest_digits}
use Rattle.diagnosis_write.proofs.put_decimal.Goals as goal

pub returns : goal.returns
returns c =
    let d = c.decimal-k in
    let e = fewest_digits c.args.n d.result d.ensures.len (search rules) in
    rw (e, sym d.ensures.digits) c.put_all.ensures
