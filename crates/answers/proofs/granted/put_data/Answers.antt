-- `answers::granted::put_data` meets its contract.
use native.Mathlib.Omega.{arith}
use Rattle.wire_write.proofs.WroteLaws.{nothing}
use Rattle.body.specs.View.{body_of}
use Rattle.results.proofs.Lengths.{name_long}
use Rattle.body.proofs.BodyLaws.{sound_even}
use Rattle.answers.proofs.granted.put_data.Goals as goal

pub put_name-requires : goal.put_name-requires
put_name-requires c = omega (arith, rw c.in-Name.is at c.requires.1, name_long c.args.name _ c.well_formed.1.1.1.0)

pub put_plain-requires : goal.put_plain-requires
put_plain-requires c =
    rw c.in-Plain.is at c.requires.1

pub put_rows-requires : goal.put_rows-requires
unfolding body_of
put_rows-requires c =
    let b = c.args.body in
    ((b.columns.count, sound_even b c.requires.0), rw c.in-Rows.is at c.requires.1)

pub put_unsigned16-requires : goal.put_unsigned16-requires
unfolding body_of
put_unsigned16-requires c = omega (arith, rw c.in-RecordNumber.is at c.requires.1)

pub put_unsigned32-requires : goal.put_unsigned32-requires
put_unsigned32-requires c =
    omega (arith, rw c.in-Value.is at c.requires.1)

pub put_scaler_unit-requires : goal.put_scaler_unit-requires
put_scaler_unit-requires c =
    omega (arith, rw c.in-ScalerUnit.is at c.requires.1)

pub returns-in-Name : goal.returns-in-Name
returns-in-Name c = rw c.in-Name.is c.put_name.ensures

pub returns-in-Plain : goal.returns-in-Plain
returns-in-Plain c =
    rw c.in-Plain.is c.put_plain.ensures

pub returns-in-Rows : goal.returns-in-Rows
unfolding body_of
returns-in-Rows c =
    rw c.in-Rows.is c.put_rows.ensures

pub returns-in-RecordNumber : goal.returns-in-RecordNumber
unfolding body_of
returns-in-RecordNumber c = rw c.in-RecordNumber.is c.put_unsigned16.ensures

pub returns-in-Value : goal.returns-in-Value
returns-in-Value c =
    rw c.in-Value.is c.put_unsigned32.ensures

pub returns-in-ScalerUnit : goal.returns-in-ScalerUnit
returns-in-ScalerUnit c =
    rw c.in-ScalerUnit.is c.put_scaler_unit.ensures

pub returns-in-Nothing : goal.returns-in-Nothing
returns-in-Nothing c = rw c.in-Nothing.is (nothing _ _ (omega (arith, c.requires.1)))
