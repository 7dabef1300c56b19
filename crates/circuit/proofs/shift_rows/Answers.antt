-- Each word as one of them is.
use mathlib.Core.Path.{ap, ◌∙◌}
use Prim.Native.Nat.{ℕ}
use Rattle.planes.specs.Lanes.{lane}
use Rattle.planes.proofs.LaneLaws.{lane_map}
use Rattle.circuit.specs.Layout.{lane_of, shifted_from}
use Rattle.circuit.proofs.LayoutLaws.{lane_in, shifted_from_lem}
use Rattle.circuit.proofs.shift_rows.Goals as goal

pub returns : goal.returns
returns c =
    λ r k b hr hk hb.
    let p = c.args.p in
    let j = lane_of r k b in
    let h = lane_in r k b hr hk hb in
    lane_map j (shifted_from j) _ p _ c.map.ensures (λ x y e. e j h) ∙ ap (λ (i : ℕ). lane i p) (shifted_from_lem r k b hr hk hb)
