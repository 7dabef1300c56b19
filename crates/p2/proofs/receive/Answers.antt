-- `p2::receive` meets its contract: refusals 1, 2 and 3, then the protocol.
use mathlib.Core.Path.{sym, ◌∙◌}
use lib.ListN.{replicate}
use borrow.Author.Tests.{ne_eqb}
use Rattle.wire.proofs.ReadingLaws.{filled_whole}
use Rattle.meter.specs.View.{view}
use Rattle.protocol.specs.Decide.{ruled}
use Rattle.p2.proofs.LentLaws.{lent_told, lent_lengths}
use Rattle.p2.proofs.CallLaws.{lent_refused, unsound_refused, ruled_answered}
use Rattle.p2.proofs.receive.Goals as goal

pub returns-then-n-ne0 : goal.returns-then-n-ne0
returns-then-n-ne0 c =
    rw c.refused.ensures (lent_refused _ _ (lent_told _ _ _ _ _ c.lent_refusal-n.ensures) (ne_eqb _ 0 c.if-n-ne0.true))

pub returns-then-not-is_sound : goal.returns-then-not-is_sound
returns-then-not-is_sound c =
    rw c.refused-then-not-is_sound.ensures (unsound_refused _ _ (lent_told _ _ _ _ _ c.lent_refusal-n.ensures ∙ c.if-n-ne0.false) (sym c.is_sound.ensures ∙ c.if-not-is_sound.true))

pub hear-heard-requires : goal.hear-heard-requires
hear-heard-requires c =
    (sym c.is_sound.ensures ∙ c.if-not-is_sound.false, (lent_lengths _ _ _ _ _ (sym c.lent_refusal-n.ensures ∙ c.if-n-ne0.false)).room)

pub returns : goal.returns
unfolding ruled view
returns c =
    let a = c.args in
    let right = lent_lengths _ _ _ _ _ (sym c.lent_refusal-n.ensures ∙ c.if-n-ne0.false) in
    rw c.settle.ensures
    (ruled_answered _ a.meter (lent_told _ _ _ _ _ c.lent_refusal-n.ensures ∙ c.if-n-ne0.false) c.hear-heard.result (sym c.is_sound.ensures ∙ c.if-not-is_sound.false)
    (rw (c.secrets_of-secrets.ensures, filled_whole a.guk.now (replicate 16 0) right.guk, filled_whole a.ak.now (replicate 16 0) right.ak, filled_whole a.challenge.now (replicate 8 0) right.challenge) at c.hear-heard.ensures))
