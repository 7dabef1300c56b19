-- The table has the columns of the printed table's entries.
use mathlib.Core.Path.{refl}
use Rattle.aes.specs.Field.{xtime}
use Rattle.aes.specs.Sbox.{sbox_table}
use Rattle.aes.proofs.columns.Goals as goal

pub returns : goal.returns
unfolding sbox_table xtime
returns c = record { rule = refl }
