-- `results::after_method` meets its contract.
use mathlib.Core.Path.{refl}
use Rattle.body.specs.View.{body_of}
use Rattle.body.proofs.BodyLaws.{none_held}
use Rattle.picks.proofs.ClearLaws.{broken_as}
use Rattle.results.proofs.after_method.Goals as goal

pub returns-in-Rows : goal.returns-in-Rows
unfolding body_of
returns-in-Rows c n d b =
    rw (c.in-Some.is, c.in-Rows.is, none_held refl, broken_as b.transfer refl)

pub returns-in-RecordNumber : goal.returns-in-RecordNumber
unfolding body_of
returns-in-RecordNumber c n d b = rw (c.in-Some.is, c.in-RecordNumber.is)
