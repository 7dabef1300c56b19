-- Demand 3 at this protocol, of the meter in code: what is claimed of the frame call and of all owner's calls.
use Rattle.model.specs.Demand3.{Demand3}
use Rattle.meter.specs.declared.Meter.{Meter}
use Rattle.meter.specs.View.{view}
use Rattle.protocol.specs.Decide.{p2}

abbrev pub P2Demand3 : Type 0
P2Demand3 = Demand3 Meter view p2
