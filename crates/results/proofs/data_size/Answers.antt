-- `results::data_size` meets its contract.
use native.Mathlib.Omega.{arith}
use Rattle.body.specs.View.{body_of}
use Rattle.body.proofs.BodyLaws.{sound_even}
use Rattle.results.proofs.Lengths.{name_long}
use Rattle.results.proofs.data_size.Goals as goal

pub rows_size-requires : goal.rows_size-requires
rows_size-requires c = sound_even c.args.body c.requires

pub returns-in-Name : goal.returns-in-Name
returns-in-Name c = rw c.in-Name.is (omega (arith, name_long c.args.name _ c.well_formed.1.0))

pub returns-in-Plain : goal.returns-in-Plain
returns-in-Plain c = rw c.in-Plain.is c.plain_size.ensures

pub returns-in-Rows : goal.returns-in-Rows
unfolding body_of
returns-in-Rows c = rw c.in-Rows.is c.rows_size.ensures
