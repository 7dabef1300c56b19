-- `image_write::parts::PickingKindWritten::put` meets its contract: by which of the three it is.
use Rattle.picks.specs.declared.PickingKind.TheVariants.{Whole, Dated, Numbered}
use Rattle.image_write.proofs.PutLaws.{put_kind, kind_is, is_first, is_second, is_third}
use Rattle.image_write.proofs.parts.PickingKindWritten.put.Goals as goal

pub returns : goal.returns
returns c =
    elim (kind_is c.args.self.now) [
      | is_first e ↦ rw e (put_kind Whole (rw e at c.put.ensures))
      | is_second e ↦ rw e (put_kind Dated (rw e at c.put.ensures))
      | is_third e ↦ rw e (put_kind Numbered (rw e at c.put.ensures))
    ]
