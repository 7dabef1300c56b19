-- The bytes of a word by their places.
use mathlib.Core.Path.{◌≡◌, refl, ap}
use Prim.Native.Nat.{ℕ, ◌%◌, ◌<◌}
use native.Mathlib.Nat.{div-one}
use lib.ListN.{get_or}
use Rattle.planes.specs.Lanes.{byte_of, bytes8}
use Rattle.planes.proofs.LaneLaws.{by_eight}

-- a byte of a word by its place
pub byte_at : (k x : ℕ) → k < 8 → byte_of k x ≡ get_or (bytes8 x) k 0
byte_at k x h =
    by_eight (λ (k : ℕ). byte_of k x ≡ get_or (bytes8 x) k 0) (ap (λ (y : ℕ). y % 256) (div-one x)) refl refl refl refl refl refl refl k h
