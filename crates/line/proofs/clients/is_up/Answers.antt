-- `line::clients::is_up` meets its contract.
use mathlib.Core.Path.{ap}
use Rattle.model.specs.State.{Peer}
use Rattle.line.proofs.PartyLaws.{peer_of_lem}
use Rattle.line.proofs.clients.is_up.Goals as goal

pub returns : goal.returns
returns c = ap (λ (p : Peer). p.up) (peer_of_lem c.args.client c.args.line _ c.party_of.ensures)
