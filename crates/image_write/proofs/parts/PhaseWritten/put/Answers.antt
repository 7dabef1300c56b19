-- `image_write::parts::PhaseWritten::put` meets its contract: by which of the three it is.
use Rattle.line.specs.declared.Phase.TheVariants.{Idle, Pending, Associated}
use Rattle.image_write.proofs.PutLaws.{put_phase, phase_is, is_first, is_second, is_third}
use Rattle.image_write.proofs.parts.PhaseWritten.put.Goals as goal

pub returns : goal.returns
returns c =
    elim (phase_is c.args.self.now) [
      | is_first e ↦ rw e (put_phase Idle (rw e at c.put.ensures))
      | is_second e ↦ rw e (put_phase Pending (rw e at c.put.ensures))
      | is_third e ↦ rw e (put_phase Associated (rw e at c.put.ensures))
    ]
