-- The bytes that the number types give are those of specs/Numbers: high byte first, the last w of them the low w bytes.
use mathlib.Core.Path.{◌≡◌, refl}
use Prim.Native.Nat.{ℕ, zero, suc, ◌-◌, ◌≤◌}
use native.Mathlib.Omega.{arith}
use mir.Syntax.{w32}
use Rattle.std.proofs.Math.Nat.{div-div-eq-div-mul}
use Rattle.std.specs.Int.{to_be_bytes}
use Rattle.wire.specs.Numbers.{high_first}
use Rattle.wire.specs.Reading.{part}

pub high_part : (w v : ℕ) → w ≤ 4 → part (4 - w) 4 (to_be_bytes w32 v) ≡ high_first w v
high_part zero v h = refl
high_part (suc zero) v h = refl
high_part (suc (suc zero)) v h = refl
high_part (suc (suc (suc zero))) v h = simp div-div-eq-div-mul refl
high_part (suc (suc (suc (suc zero)))) v h = simp div-div-eq-div-mul refl
high_part (suc (suc (suc (suc (suc w))))) v h = absurd (omega arith)
