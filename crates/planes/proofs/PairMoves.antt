-- The moves of `pair_of`, apart from their tests: must-fail/byte_in_another_lane.edit changes them along with the code, and the tests are what it fails.
use Rattle.planes.proofs.MoveLaws.{Move, word, up, keep, join}

unfoldable pub pair_program : Move
pair_program = join (keep 0x0101010101010101 (word 0)) (up 4 (keep 0x0101010101010101 (word 1)))
