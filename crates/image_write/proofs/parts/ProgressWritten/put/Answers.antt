-- `image_write::parts::ProgressWritten::put` meets its contract: by which of the three it is.
use Rattle.picks.specs.declared.Progress.TheVariants.{Idle, Running, Ended}
use Rattle.image_write.proofs.PutLaws.{put_progress, progress_is, is_first, is_second, is_third}
use Rattle.image_write.proofs.parts.ProgressWritten.put.Goals as goal

pub returns : goal.returns
returns c =
    elim (progress_is c.args.self.now) [
      | is_first e ↦ rw e (put_progress Idle (rw e at c.put.ensures))
      | is_second e ↦ rw e (put_progress Running (rw e at c.put.ensures))
      | is_third e ↦ rw e (put_progress Ended (rw e at c.put.ensures))
    ]
