-- `capi::birlimock_receive` meets its contract where the state is no whole image; the rest is found.
use mathlib.Core.Path.{◌∙◌}
use Rattle.std.proofs.Common.{rules}
use Rattle.p2.proofs.LentLaws.{lent_told}
use Rattle.capi.proofs.FrameLaws.{refused_by_image}
use Rattle.capi.proofs.birlimock_receive.Goals as goal

pub returns-in-Err : goal.returns-in-Err
returns-in-Err c = refused_by_image _ _ _ _ _ c.lent_refusal-refusal.ensures (search rules) c.in-Err.ensures c.number.ensures

pub receive_held-requires-clause-taken : goal.receive_held-requires-clause-taken
receive_held-requires-clause-taken c = lent_told _ _ _ _ _ c.lent_refusal-refusal.ensures ∙ c.if-refusal-ne0.false
