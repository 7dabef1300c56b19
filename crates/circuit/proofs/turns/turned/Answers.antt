-- Each word as one of them is.
use Rattle.planes.proofs.LaneLaws.{lane_map}
use Rattle.circuit.proofs.turns.turned.Goals as goal

pub returns : goal.returns
returns c = λ j h. lane_map j _ _ _ _ c.map.ensures (λ x y e. e j h)
