-- The result codes of document 01, by what each says of a read or a method that is denied: "4 name unknown; 9 class wrong; 3 attribute
-- or method not served, or no right", then 12, 13 and 250.
use Rattle.std.specs.Prelude.{ℕ}
use Rattle.model.specs.declared.Denial.{Denial}
use Rattle.model.specs.declared.Denial.TheVariants.{NotServed, NameUnknown, ClassWrong, ShapeWrong, RowsWrong, AnswerTooLong}

abbrev pub code_of : Denial → ℕ
code_of NameUnknown = 4
code_of ClassWrong = 9
code_of NotServed = 3
code_of ShapeWrong = 12
code_of RowsWrong = 13
code_of AnswerTooLong = 250
