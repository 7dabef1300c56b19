-- The one way in which the fields of a transfer hold what the model's Transfer has: zeros wherever it holds nothing. The `cleared`
-- of a transfer has zeros put there; `transfer_with` makes the transfer that holds just this.
use Rattle.std.specs.Prelude.{ℕ, replicate}
use Rattle.model.specs.declared.Clock.{Clock}
use Rattle.model.specs.Selecting.{Picking as ModelPicking, whole, numbered, dated}
use Rattle.model.specs.State.{Long, profile, Transfer as ModelTransfer, idle, running, ended}
use Rattle.picks.specs.declared.PickingKind.{PickingKind}
use Rattle.picks.specs.declared.PickingKind.TheVariants.{Whole, Dated, Numbered}
use Rattle.picks.specs.declared.Picking.{Picking}
use Rattle.picks.specs.declared.Progress.{Progress}
use Rattle.picks.specs.declared.Progress.TheVariants.{Idle, Running, Ended}
use Rattle.picks.specs.declared.Transfer.{Transfer}

abbrev pub zero_clock : Clock
zero_clock = record { bytes = replicate 12 0 }

-- Pickings of each kind, and transfers of each progress.

abbrev pub whole_picking : Picking
whole_picking = record { kind = Whole; after = zero_clock; until = zero_clock; from = 0; to = 0 }

abbrev pub dated_picking : (after until : Clock) → Picking
dated_picking s e = record { kind = Dated; after = s; until = e; from = 0; to = 0 }

abbrev pub numbered_picking : (from to : ℕ) → Picking
numbered_picking m n = record { kind = Numbered; after = zero_clock; until = zero_clock; from = m; to = n }

abbrev pub no_transfer : Transfer
no_transfer = record { progress = Idle; picking = whole_picking; block = 0 }

abbrev pub running_transfer : Picking → ℕ → Transfer
running_transfer p k = record { progress = Running; picking = p; block = k }

abbrev pub ended_transfer : Transfer
ended_transfer = record { progress = Ended; picking = whole_picking; block = 0 }

-- the transfer once the rows are others: one that runs is ended
abbrev pub broken_by : Progress → Transfer → Transfer
broken_by Idle t = t
broken_by Running t = ended_transfer
broken_by Ended t = t

unfoldable pub broken_transfer : Transfer → Transfer
broken_transfer t = broken_by t.progress t

-- Cleared.

abbrev pub cleared_as : PickingKind → Picking → Picking
cleared_as Whole p = whole_picking
cleared_as Dated p = dated_picking p.after p.until
cleared_as Numbered p = numbered_picking p.from p.to

unfoldable pub cleared_picking : Picking → Picking
cleared_picking p = cleared_as p.kind p

abbrev pub cleared_by : Progress → Transfer → Transfer
cleared_by Idle t = no_transfer
cleared_by Running t = running_transfer (cleared_picking t.picking) t.block
cleared_by Ended t = ended_transfer

unfoldable pub cleared_transfer : Transfer → Transfer
cleared_transfer t = cleared_by t.progress t

-- Made from what is to be held.

abbrev pub picking_with : ModelPicking → Picking
picking_with whole = whole_picking
picking_with (numbered from to) = numbered_picking from to
picking_with (dated from to) = dated_picking from to

abbrev pub long_with : Long → Picking
long_with (profile p) = picking_with p

unfoldable pub transfer_with : ModelTransfer → Transfer
transfer_with idle = no_transfer
transfer_with (running x k) = running_transfer (long_with x) k
transfer_with ended = ended_transfer
