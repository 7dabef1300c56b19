-- The way in, the inverse, the way out with the affine map: the rule of the printed table.
use mathlib.Core.Path.{sym, ap, ◌∙◌}
use Rattle.planes.proofs.LaneLaws.{lane_lt}
use Rattle.sbox.specs.SboxRule.{inverse, affine}
use Rattle.sbox.proofs.SboxLaws.{sbox_rule}
use Rattle.circuit.proofs.sub_bytes.Goals as goal

pub returns : goal.returns
returns c =
    λ j h.
    c.affine_out.ensures j h
    ∙ ap affine (c.inverse.ensures j ∙ ap inverse (c.into_halves.ensures j))
    ∙ sym (sbox_rule _ (lane_lt j _))
