-- The round keys of the nine rounds in the middle.
use native.Mathlib.Omega.{arith}
use mathlib.Core.Path.{◌≡◌, refl, ◌∙◌}
use mathlib.Core.List.{List, [], ◌∷◌}
use Prim.Native.Nat.{ℕ, suc, ◌<◌}
use lib.ListN.{get_or, length, take, drop, length-drop}
use lib.Seq.{length-take-le}
use Rattle.std.proofs.lemmas.List.{get_or-take}
use Rattle.aes.specs.State.{State}

pub nine_keys : (w : List State) → length w ≡ 11 → length (take 9 (drop 1 w)) ≡ 9
nine_keys w n = length-take-le 9 (drop 1 w) (omega (arith, length-drop 1 w))

after_one : (w : List State) (i : ℕ) → get_or (drop 1 w) i [] ≡ get_or w (suc i) []
after_one [] i = refl
after_one (k ∷ w) i = refl

pub key_at : (w : List State) (i : ℕ) → length w ≡ 11 → i < length (take 9 (drop 1 w)) → get_or (take 9 (drop 1 w)) i [] ≡ get_or w (suc i) []
key_at w i n h = get_or-take 9 (drop 1 w) i [] (omega (arith, nine_keys w n)) ∙ after_one w i
