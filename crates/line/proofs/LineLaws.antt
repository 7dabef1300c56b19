-- Services of three bytes, compared byte by byte; and what is left in a line on which nothing has happened.
use mathlib.Core.Path.{◌≡◌, refl, sym}
use mathlib.Core.Bool.{Bool, false, ◌&&◌, and_assoc, and-true}
use mathlib.Core.List.{List, [], ◌∷◌}
use Prim.Native.Nat.{ℕ}
use native.Mathlib.Omega.{arith}
use lib.Bits.{bit_and}
use lib.Dec.{eqb}
use lib.ListN.{length, get_or}
use Rattle.model.specs.declared.Client.{Client}
use Rattle.model.specs.declared.Client.TheVariants.{Verification, Ciphering}
use Rattle.model.specs.declared.CipherClient.TheVariants.{Han}
use Rattle.model.specs.Services.{within}
use Rattle.model.specs.Soundness.{in_force}
use denote.Enum.Bare.{sameb}
use Rattle.line.specs.declared.Phase.{Phase}
use Rattle.line.specs.declared.Phase.TheVariants.{Idle, Pending, Associated}
use Rattle.line.specs.contracts.Phase.{the_type as phase-type}
use Rattle.line.specs.Left.{Wiped, started_line}
use Rattle.line.specs.View.{association_of}

-- the byte at a place lies within the other
abbrev pub byte_within : List ℕ → List ℕ → ℕ → Bool
byte_within a o i = eqb (bit_and (get_or a i 0) (get_or o i 0)) (get_or a i 0)

pub within_three : (a o : List ℕ) → length a ≡ 3 → length o ≡ 3 → within a o ≡ ((byte_within a o 0 && byte_within a o 1) && byte_within a o 2)
unfolding within
within_three [] o h k = absurd (omega arith)
within_three (a ∷ []) o h k = absurd (omega arith)
within_three (a ∷ b ∷ []) o h k = absurd (omega arith)
within_three (a ∷ b ∷ c ∷ d ∷ xs) o h k = absurd (omega arith)
within_three (a ∷ b ∷ c ∷ []) [] h k = absurd (omega arith)
within_three (a ∷ b ∷ c ∷ []) (d ∷ []) h k = absurd (omega arith)
within_three (a ∷ b ∷ c ∷ []) (d ∷ e ∷ []) h k = absurd (omega arith)
within_three (a ∷ b ∷ c ∷ []) (d ∷ e ∷ f ∷ g ∷ os) h k = absurd (omega arith)
within_three (a ∷ b ∷ c ∷ []) (d ∷ e ∷ f ∷ []) h k = simp (and_assoc, and-true)

-- nothing lies within the services of no association
pub within_none : (a : List ℕ) → length a ≡ 3 → false ≡ within a []
unfolding within
within_none [] h = absurd (omega arith)
within_none (a ∷ xs) h = refl

-- a service is agreed in an association that stands, and where its bits lie within
pub agreed_when : (x : Phase) (s a k c m : List ℕ) → length s ≡ 3 → within s (in_force (association_of x a k c m)) ≡ (sameb phase-type x Associated && within s a)
agreed_when Idle s a k c m h = sym (within_none s h)
agreed_when Pending s a k c m h = sym (within_none s h)
agreed_when Associated s a k c m h = refl

-- nothing is left of any client's association
pub started_wiped : (t v h : List ℕ) (f : Bool) (c : Client) → Wiped c (started_line t v h f)
unfolding started_line
started_wiped t v h f Verification = refl
started_wiped t v h f (Ciphering Han) = record { agreed = refl; key = refl; challenges = record { client = refl; meter = refl } }
