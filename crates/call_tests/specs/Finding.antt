-- What a call comes to (document 02, Q-2): the first test that it fails, or none.
use Rattle.std.specs.Prelude.{Result}
use Rattle.call_tests.specs.declared.CallTest.{CallTest}

abbrev pub Finding : Type 0
Finding = Result (Unit {0}) CallTest
