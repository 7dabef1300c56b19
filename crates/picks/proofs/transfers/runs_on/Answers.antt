-- `picks::transfers::runs_on` meets its contract: by the rows that were picked.
use mathlib.Core.Path.{◌∙◌, ap}
use Prim.Native.Nat.{ℕ}
use Rattle.model.specs.Soundness.{more_comes}
use Rattle.picks.proofs.TransferLaws.{rows_go, none_goes}
use Rattle.picks.proofs.transfers.runs_on.Goals as goal

pub returns-in_default : goal.returns-in_default
returns-in_default c =
    let refused = rw c.in_default.is at c.pick_rows.ensures in
    λ s e. none_goes _ _ s e _ _ refused

pub returns : goal.returns
returns c =
    let picked = rw c.in-Ok.is at c.pick_rows.ensures in
    λ s e. c.more_comes.ensures ∙ ap (λ (n : ℕ). more_comes n c.args.block) c.rows_size.ensures ∙ rows_go _ _ s e _ _ picked
