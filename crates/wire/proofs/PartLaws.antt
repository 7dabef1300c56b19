-- Laws of parts of a list: their length, and how `&s[a..e]` has them.
use mathlib.Core.Path.{◌≡◌}
use mathlib.Core.List.{List}
use Prim.Native.Nat.{ℕ, ◌+◌, ◌≤◌}
use native.Mathlib.Nat.{add-sub_cancel_left}
use native.Mathlib.Omega.{arith}
use lib.ListN.{length, take, drop, length-drop}
use lib.Seq.{length-take-le}
use Rattle.wire.specs.Reading.{part}

-- a stretch that lies within a list has its length
pub length_stretch : (l : List ℕ) (a k : ℕ) → a + k ≤ length l → length (take k (drop a l)) ≡ k
length_stretch l a k h = length-take-le k (drop a l) (simp length-drop (omega arith))

-- the part of n bytes from a on
pub part_of : (a n : ℕ) (s : List ℕ) → part a (a + n) s ≡ take n (drop a s)
part_of a n s = rw (add-sub_cancel_left a n)
