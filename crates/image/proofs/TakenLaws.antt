-- Which bytes of the larger parts decide whether they are taken: those of their flags, phases, progress and
-- kind, each at its place.
use mathlib.Core.Path.{◌≡◌, refl, sym, ap, ◌∙◌}
use mathlib.Core.Bool.{Bool, true, false, ◌&&◌, and-true}
use Rattle.std.proofs.Math.Bool.{and_assoc}
use mathlib.Core.List.{List}
use Prim.Native.Nat.{ℕ, ◌+◌}
use native.Mathlib.Omega.{arith}
use lib.ListN.{drop}
use lib.Seq.{drop-drop}
use Rattle.image.specs.Codec.{fields, flag, phase, progress, picking_kind, below_three, number, all_taken}
use Rattle.image.specs.Layout.{party_part, counters_part, cipher_party_part, name_part, clock_part, register_part, registers_part, columns_part, row_part, rows_part, picking_part, transfer_part, body_part, line_part, meter_part}
use Rattle.image.proofs.LoopLaws.{all_taken_lem}
use Rattle.image.specs.Sizes.{sizes}

pub cipher_party_taken : (s : List ℕ) → cipher_party_part.taken s ≡ party_part.taken s
unfolding cipher_party_part counters_part fields
cipher_party_taken s = and-true (party_part.taken s)

pub register_taken : (s : List ℕ) → register_part.taken s ≡ flag.taken (drop 6 s)
unfolding register_part name_part fields
register_taken s = and-true (flag.taken (drop 6 s))

pub name_taken : (s : List ℕ) → name_part.taken s ≡ true
unfolding name_part fields
name_taken s = refl

row_taken : (s : List ℕ) → row_part.taken s ≡ true
unfolding row_part clock_part fields
row_taken s = all_taken_lem (number 4) (λ t. refl) 16 _

registers_taken : (s : List ℕ) → registers_part.taken s ≡ all_taken register_part 16 (drop 8 s)
unfolding registers_part fields
registers_taken s = refl

columns_taken : (s : List ℕ) → columns_part.taken s ≡ true
unfolding columns_part fields
columns_taken s = all_taken_lem name_part name_taken 16 _

rows_taken : (s : List ℕ) → rows_part.taken s ≡ true
unfolding rows_part fields
rows_taken s = all_taken_lem row_part row_taken 15 _

-- a transfer: its progress, then its kind
transfer_taken : (s : List ℕ) → transfer_part.taken s ≡ (below_three s && below_three (drop 1 s))
unfolding transfer_part picking_part clock_part progress picking_kind fields
transfer_taken s = ap (λ (b : Bool). below_three s && b) (and-true _ ∙ and-true (below_three (drop 1 s)))

-- a body: its registers, then its transfer
body_taken : (s : List ℕ) → body_part.taken s ≡ (all_taken register_part 16 (drop 42 s) && transfer_part.taken (drop 1652 s))
unfolding body_part clock_part fields
body_taken s = simp (registers_taken, columns_taken, rows_taken, sizes.registers_size, sizes.columns_size, sizes.rows_size, drop-drop)

-- The same from a place on.
module _ (s : List ℕ) (at : ℕ) where
  pub register_from : register_part.taken (drop at s) ≡ flag.taken (drop (at + 6) s)
  register_from = register_taken (drop at s) ∙ ap flag.taken (drop-drop 6 at s)

  pub party_from : party_part.taken (drop at s) ≡ (flag.taken (drop (at + 8) s) && phase.taken (drop (at + 9) s))
  unfolding party_part phase fields
  party_from =
      let e : party_part.taken (drop at s) ≡ (flag.taken (drop (at + 8) s) && below_three (drop (at + 8 + 1) s)) = simp (drop-drop, sizes.flag_size, and-true) in
      e ∙ ap (λ (k : ℕ). flag.taken (drop (at + 8) s) && below_three (drop k s)) (omega arith)

  pub line_from : line_part.taken (drop at s) ≡ ((party_part.taken (drop (at + 8) s) && cipher_party_part.taken (drop (at + 8 + 13) s)) && flag.taken (drop (at + 8 + 13 + 53) s))
  unfolding line_part fields
  line_from = simp (drop-drop, sizes.party_size, sizes.cipher_party_size, and_assoc)

  pub transfer_from : transfer_part.taken (drop at s) ≡ (progress.taken (drop at s) && picking_kind.taken (drop (at + 1) s))
  unfolding progress picking_kind
  transfer_from = transfer_taken (drop at s) ∙ ap (λ (t : List ℕ). below_three (drop at s) && below_three t) (drop-drop 1 at s)

  pub body_from : body_part.taken (drop at s) ≡ (all_taken register_part 16 (drop (at + 42) s) && transfer_part.taken (drop (at + 1652) s))
  body_from = rw (body_taken (drop at s), drop-drop 42 at s, drop-drop 1652 at s)

  pub meter_from : meter_part.taken (drop at s) ≡ (line_part.taken (drop at s) && body_part.taken (drop (at + 75) s))
  unfolding meter_part fields
  meter_from = simp (drop-drop, sizes.line_size)

-- a test of two, by the first; and by the second where the first is passed
pub first_fails : (p q : Bool) {x a : Bool} → x ≡ (p && q) → a ≡ p → a ≡ false → a ≡ x
first_fails p q e f h = h ∙ sym (e ∙ ap (λ (b : Bool). b && q) (sym f ∙ h))

pub then_second : (p q : Bool) {x a b : Bool} → x ≡ (p && q) → a ≡ p → a ≡ true → b ≡ q → b ≡ x
then_second p q e f h k = k ∙ sym (e ∙ ap (λ (b : Bool). b && q) (sym f ∙ h))
