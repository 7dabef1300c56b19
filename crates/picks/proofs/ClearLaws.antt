-- A transfer that is cleared: it holds the same, and it is the one transfer that holds it. One that other rows end.
use mathlib.Core.Path.{◌≡◌, refl}
use Rattle.model.specs.State.{broken}
use Rattle.picks.specs.declared.PickingKind.{PickingKind}
use Rattle.picks.specs.declared.PickingKind.TheVariants.{Whole, Dated, Numbered}
use Rattle.picks.specs.declared.Picking.{Picking}
use Rattle.picks.specs.declared.Progress.{Progress}
use Rattle.picks.specs.declared.Progress.TheVariants.{Idle, Running, Ended}
use Rattle.picks.specs.declared.Transfer.{Transfer}
use Rattle.picks.specs.Transfers.{picking_as, picking_of, transfer_as, transfer_of}
use Rattle.picks.specs.Canonical.{broken_by, broken_transfer, cleared_as, cleared_picking, cleared_by, cleared_transfer, picking_with, transfer_with}

picking_clear : (p : Picking) (k : PickingKind) → (picking_of (cleared_as k p) ≡ picking_as k p) × (cleared_as k p ≡ picking_with (picking_as k p))
unfolding picking_of
picking_clear p Whole = (refl, refl)
picking_clear p Dated = (refl, refl)
picking_clear p Numbered = (refl, refl)

transfer_clear : (t : Transfer) (g : Progress) → (transfer_of (cleared_by g t) ≡ transfer_as g t) × (cleared_by g t ≡ transfer_with (transfer_as g t))
unfolding picking_of cleared_picking transfer_of transfer_with
transfer_clear t Idle = (refl, refl)
transfer_clear t Running =
    let p = picking_clear t.picking t.picking.kind in
    (rw p.0, rw p.1)
transfer_clear t Ended = (refl, refl)

pub transfer_same : (t : Transfer) → transfer_of (cleared_transfer t) ≡ transfer_of t
unfolding transfer_of cleared_transfer
transfer_same t = (transfer_clear t t.progress).0

pub transfer_canonical : (t : Transfer) → cleared_transfer t ≡ transfer_with (transfer_of t)
unfolding transfer_of cleared_transfer
transfer_canonical t = (transfer_clear t t.progress).1

-- Ended by other rows.

pub broken_as : (t : Transfer) {r : Transfer} → r ≡ broken_transfer t → transfer_of r ≡ broken (transfer_of t)
unfolding broken_transfer transfer_of
broken_as t e = rw e (go t.progress refl)
  where
    go : (p : Progress) → t.progress ≡ p → transfer_as (broken_by t.progress t).progress (broken_by t.progress t) ≡ broken (transfer_as t.progress t)
    go Idle q = rw q refl
    go Running q = rw q refl
    go Ended q = rw q refl
