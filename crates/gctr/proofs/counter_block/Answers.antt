-- The counter's bytes are std's.
use Rattle.std.proofs.Common.{◌<◌, ◌^◌, rules}
use Rattle.gctr.proofs.GctrLaws.{counter_bytes}
use Rattle.gctr.proofs.counter_block.Goals as goal

pub returns : goal.returns
returns c =
    let f : c.args.c < 2 ^ 32 = search rules in
    simp (c.to_be_bytes.ensures, counter_bytes c.args.c f)
