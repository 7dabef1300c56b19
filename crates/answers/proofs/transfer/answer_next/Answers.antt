-- `answers::transfer::answer_next` meets its contract.
use mathlib.Core.Path.{refl}
use Rattle.model.specs.Objects.{turned}
use Rattle.picks.specs.Transfers.{transfer_of}
use Rattle.body.specs.View.{body_of}
use Rattle.answers.proofs.AnswerLaws.{turns_by}
use Rattle.answers.proofs.transfer.answer_next.Goals as goal

pub go_on-requires : goal.go_on-requires
unfolding body_of transfer_of
go_on-requires c =
    (c.requires.0, rw c.in-Running.is, c.requires.1)

pub returns-in-Ended : goal.returns-in-Ended
unfolding turned body_of transfer_of
returns-in-Ended c = rw c.in-Ended.is (c.refuse.ensures _)

pub returns-in-Idle : goal.returns-in-Idle
unfolding turned body_of transfer_of
returns-in-Idle c = rw c.in-Idle.is (c.refuse-in-Idle.ensures _)

pub returns-in-Running : goal.returns-in-Running
unfolding turned body_of transfer_of
returns-in-Running c = turns_by (rw c.in-Running.is refl) c.go_on.ensures
