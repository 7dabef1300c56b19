-- `image::check::PickingKindTested::is_taken` meets its contract.
use Rattle.image.specs.Codec.{picking_kind}
use Rattle.image.proofs.check.PickingKindTested.is_taken.Goals as goal

pub returns : goal.returns
unfolding picking_kind
returns c = c.is_below_three.ensures
