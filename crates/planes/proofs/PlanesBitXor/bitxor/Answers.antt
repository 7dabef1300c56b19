-- The law of exclusive or, lane by lane.
use Rattle.planes.proofs.LaneLaws.{lane_xor}
use Rattle.planes.proofs.PlanesBitXor.bitxor.Goals as goal

pub returns : goal.returns
returns c = λ j. lane_xor j _ _
