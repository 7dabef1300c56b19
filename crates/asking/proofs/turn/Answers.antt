-- `asking::turn` meets its contract.
use mathlib.Core.Path.{sym}
use Rattle.meter.proofs.MeterLaws.{sound_body}
use Rattle.asking.proofs.turn.Goals as goal

pub answer-requires : goal.answer-requires
answer-requires c = (sound_body c.args.meter c.requires.ready.0, c.requires.room)

pub returns : goal.returns
returns c =
    rw (sym c.is_selective-selective.ensures, sym c.are_blocks_agreed-blocks.ensures) c.answer.ensures
