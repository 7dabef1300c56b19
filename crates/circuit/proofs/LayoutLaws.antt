-- Rows, columns and blocks of lanes.
use mathlib.Core.Path.{◌≡◌, refl}
use Prim.Native.Nat.{ℕ, ◌+◌, ◌/◌, ◌%◌, ◌<◌}
use native.Mathlib.Omega.{arith}
use Rattle.circuit.specs.Layout.{lane_of, shifted_from}

module _ (r c b : ℕ) (hr : r < 4) (hc : c < 4) (hb : b < 4) where
  pub lane_in : lane_of r c b < 64
  lane_in = omega arith

  -- row, column and block of a lane
  row : lane_of r c b / 16 ≡ r
  row = omega arith

  column : lane_of r c b / 4 % 4 ≡ c
  column = omega arith

  block : lane_of r c b % 4 ≡ b
  block = omega arith

  pub shifted_from_lem : shifted_from (lane_of r c b) ≡ lane_of r ((c + r) % 4) b
  shifted_from_lem = rw row (rw column (rw block refl))

  -- rows on, round the end
  pub one_on : (lane_of r c b + 16) % 64 ≡ lane_of ((r + 1) % 4) c b
  one_on = omega arith

  pub two_on : (lane_of r c b + 32) % 64 ≡ lane_of ((r + 2) % 4) c b
  two_on = omega arith

  pub three_on : ((lane_of r c b + 32) % 64 + 16) % 64 ≡ lane_of ((r + 3) % 4) c b
  three_on = omega arith
