-- The law of the inverse by halves, in each lane.
use mathlib.Core.Path.{ap, ap₂, ◌∙◌}
use Prim.Native.Nat.{ℕ}
use Rattle.sbox.specs.SboxRule.{times, inverse}
use Rattle.sbox.proofs.HalvesLaws.{exchanged_times}
use Rattle.sbox.specs.Halves.{whole}
use Rattle.circuit.specs.Layout.{half_at, whole_at}
use Rattle.circuit.proofs.HalfLaws.{inverse_at}
use Rattle.circuit.proofs.halves.inverse.Goals as goal

pub returns : goal.returns
unfolding whole_at exchanged_times
returns c =
    λ j.
    let a = c.args.h in
    let e = c.inverse_half-i.ensures j ∙ ap inverse (c.norm.ensures j) in
    ap₂ whole (c.times.ensures j ∙ ap (λ (x : ℕ). times x (half_at j a.high)) e) (c.times-2.ensures j ∙ ap (λ (x : ℕ). times x (half_at j a.low)) e)
    ∙ inverse_at j a.low a.high
