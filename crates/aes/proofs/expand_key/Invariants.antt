use mathlib.Core.Path.{◌≡◌}
use mathlib.Core.List.{◌∷◌}
use Prim.Native.Nat.{suc}
use lib.ListN.{take}
use Rattle.aes.specs.KeyExpansion.{rcon, round_key, round_keys}
use Rattle.aes.proofs.expand_key.Given as goal

abbrev pub invariant-loop-next : goal.invariant-loop-next
invariant-loop-next l =
    (l.k ≡ round_key l.initial.k l.next-index)
    × (l.rc ≡ rcon l.next-index)
    × (l.initial.k ∷ take l.next-index l.next-items ≡ round_keys l.initial.k (suc l.next-index))
