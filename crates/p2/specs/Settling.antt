-- The last step of a frame call: of what is carried out a transfer that the line does not allow is forgotten (document 02, Q-4: "the end
-- of H's association forgets it"). `Answered` does not name it.
use Rattle.std.specs.Prelude.{cond}
use Rattle.model.specs.State.{Line}
use Rattle.model.specs.Soundness.{allowed}
use Rattle.line.specs.View.{line_of}
use Rattle.picks.specs.declared.Transfer.{Transfer}
use Rattle.picks.specs.Canonical.{no_transfer}
use Rattle.picks.specs.Transfers.{transfer_of}
use Rattle.body.specs.Change.{holding}
use Rattle.ending.specs.declared.Received.{Received}
use Rattle.ending.specs.Inner.{received, meter_with}

-- the transfer that the line keeps
abbrev pub kept_transfer : Line → Transfer → Transfer
kept_transfer l t = cond (allowed l (transfer_of t)) t no_transfer

-- what comes back, with that transfer
abbrev pub settled_received : Received → Received
settled_received r =
    let l = r.meter.line in
    let b = r.meter.body in
    received r.refusal r.count (meter_with l (holding b.number b.rows (kept_transfer (line_of l) b.transfer) b))
