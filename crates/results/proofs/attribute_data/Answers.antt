-- `results::attribute_data` meets its contract.
use Rattle.std.proofs.Common.{arith}
use Rattle.model.specs.Objects.{attribute_data}
use Rattle.results.proofs.ResultLaws.{shows_other}
use Rattle.results.proofs.attribute_data.Goals as goal

pub returns-in-1 : goal.returns-in-1
unfolding attribute_data
returns-in-1 c = λ n b. rw c.in-1.is

pub returns-in-2 : goal.returns-in-2
returns-in-2 c = rw c.in-2.is c.value_data.ensures

pub returns-in_default : goal.returns-in_default
returns-in_default c =
    let a = c.args in
    shows_other a.shown a.attribute a.which c.scaler_data.result (omega arith) (omega arith) (c.scaler_data.ensures a.which)
