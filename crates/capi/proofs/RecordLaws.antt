-- Lists of register records that differ in values of chosen registers alone: both are whole or neither is, and they give registers
-- that are alike. One record, byte by byte; then as many as there are.
use mathlib.Core.Path.{◌≡◌, refl, sym, ◌∙◌, ap, ap₂}
use mathlib.Core.Bool.{Bool, true, false, ◌&&◌, cond}
use mathlib.Core.List.{List, [], ◌∷◌, ◌++◌, map}
use Prim.Native.Nat.{ℕ, zero, suc, ◌+◌, ◌*◌, ◌/◌, ◌%◌, ◌≤◌}
use native.Mathlib.Omega.{arith}
use lib.Dec.{eqb}
use lib.ListN.{length, drop}
use Rattle.model.specs.declared.Name.{Name}
use Rattle.model.specs.declared.Register.{Register}
use Rattle.model.specs.Names.{with_value}
use Rattle.model.specs.Demand3.{Chosen, hide, hide_register}
use Rattle.image.specs.Codec.{fields, flag, values, all_taken}
use Rattle.image.specs.Layout.{name_part, register_part}
use Rattle.image.specs.Lists.{whole_list, list_in}
use Rattle.capi.specs.Runs.{hidden_records}

-- One record.

-- its bytes: name, right, scaler, unit, and the value in the last four
record Bytes : Type 0 where
  pub b0 : ℕ
  pub b1 : ℕ
  pub b2 : ℕ
  pub b3 : ℕ
  pub b4 : ℕ
  pub b5 : ℕ
  pub b6 : ℕ
  pub b7 : ℕ
  pub b8 : ℕ
  pub b9 : ℕ
  pub b10 : ℕ
  pub b11 : ℕ
  pub b12 : ℕ

abbrev name_of : Bytes → Name
name_of b = record { bytes = b.b0 ∷ b.b1 ∷ b.b2 ∷ b.b3 ∷ b.b4 ∷ b.b5 ∷ [] }

-- they stand before others; with zeros for the value, or not
abbrev before : Bytes → List ℕ → List ℕ
before b r = b.b0 ∷ b.b1 ∷ b.b2 ∷ b.b3 ∷ b.b4 ∷ b.b5 ∷ b.b6 ∷ b.b7 ∷ b.b8 ∷ b.b9 ∷ b.b10 ∷ b.b11 ∷ b.b12 ∷ r

abbrev shown : Bool → Bytes → List ℕ → List ℕ
shown x b r = ((b.b0 ∷ b.b1 ∷ b.b2 ∷ b.b3 ∷ b.b4 ∷ b.b5 ∷ b.b6 ∷ b.b7 ∷ b.b8 ∷ []) ++ cond x (0 ∷ 0 ∷ 0 ∷ 0 ∷ []) (b.b9 ∷ b.b10 ∷ b.b11 ∷ b.b12 ∷ [])) ++ r

-- a list of thirteen bytes or more, by its first thirteen
data Thirteen : List ℕ → Type 0 where
  thirteen : (b : Bytes) (r : List ℕ) → Thirteen (before b r)

cut : (s : List ℕ) → 13 ≤ length s → Thirteen s
cut [] h = absurd (omega arith)
cut (b0 ∷ []) h = absurd (omega arith)
cut (b0 ∷ b1 ∷ []) h = absurd (omega arith)
cut (b0 ∷ b1 ∷ b2 ∷ []) h = absurd (omega arith)
cut (b0 ∷ b1 ∷ b2 ∷ b3 ∷ []) h = absurd (omega arith)
cut (b0 ∷ b1 ∷ b2 ∷ b3 ∷ b4 ∷ []) h = absurd (omega arith)
cut (b0 ∷ b1 ∷ b2 ∷ b3 ∷ b4 ∷ b5 ∷ []) h = absurd (omega arith)
cut (b0 ∷ b1 ∷ b2 ∷ b3 ∷ b4 ∷ b5 ∷ b6 ∷ []) h = absurd (omega arith)
cut (b0 ∷ b1 ∷ b2 ∷ b3 ∷ b4 ∷ b5 ∷ b6 ∷ b7 ∷ []) h = absurd (omega arith)
cut (b0 ∷ b1 ∷ b2 ∷ b3 ∷ b4 ∷ b5 ∷ b6 ∷ b7 ∷ b8 ∷ []) h = absurd (omega arith)
cut (b0 ∷ b1 ∷ b2 ∷ b3 ∷ b4 ∷ b5 ∷ b6 ∷ b7 ∷ b8 ∷ b9 ∷ []) h = absurd (omega arith)
cut (b0 ∷ b1 ∷ b2 ∷ b3 ∷ b4 ∷ b5 ∷ b6 ∷ b7 ∷ b8 ∷ b9 ∷ b10 ∷ []) h = absurd (omega arith)
cut (b0 ∷ b1 ∷ b2 ∷ b3 ∷ b4 ∷ b5 ∷ b6 ∷ b7 ∷ b8 ∷ b9 ∷ b10 ∷ b11 ∷ []) h = absurd (omega arith)
cut (b0 ∷ b1 ∷ b2 ∷ b3 ∷ b4 ∷ b5 ∷ b6 ∷ b7 ∷ b8 ∷ b9 ∷ b10 ∷ b11 ∷ b12 ∷ r) h = thirteen (record { b0 = b0; b1 = b1; b2 = b2; b3 = b3; b4 = b4; b5 = b5; b6 = b6; b7 = b7; b8 = b8; b9 = b9; b10 = b10; b11 = b11; b12 = b12 }) r

abbrev hidden : Bool → Register → Register
hidden x r = with_value (hide x r.value) r

same_register : (x : Bool) (b : Bytes) (t r : List ℕ) → hidden x (register_part.value (before b t)) ≡ hidden x (register_part.value (shown x b r))
unfolding register_part fields name_part flag
same_register true b t r = refl
same_register false b t r = refl

same_taken : (x : Bool) (b : Bytes) (t r : List ℕ) → register_part.taken (before b t) ≡ register_part.taken (shown x b r)
unfolding register_part fields name_part flag
same_taken x b t r = refl

same_rest : (x : Bool) (b : Bytes) (r : List ℕ) → drop 13 (shown x b r) ≡ r
same_rest true b r = refl
same_rest false b r = refl

same_length : (x : Bool) (b : Bytes) (r : List ℕ) → length (shown x b r) ≡ 13 + length r
same_length true b r = omega arith
same_length false b r = omega arith

-- As many as there are.

module _ (ch : Chosen) where
  -- n records, and the same hidden
  record Same (n : ℕ) (s : List ℕ) : Type 0 where
    pub size : length (hidden_records ch n s) ≡ length s
    pub taken : all_taken register_part n s ≡ all_taken register_part n (hidden_records ch n s)
    pub registers : map (hide_register ch) (values register_part n s) ≡ map (hide_register ch) (values register_part n (hidden_records ch n s))

  same : (n : ℕ) (s : List ℕ) → n * 13 ≤ length s → Same n s
  unfolding hidden_records all_taken values register_part fields name_part flag
  same zero s h = record { size = refl; taken = refl; registers = refl }
  same (suc n) s h = go s (cut s (omega arith)) h (same n)
    where
      go : (s : List ℕ) → Thirteen s → suc n * 13 ≤ length s → ((r : List ℕ) → n * 13 ≤ length r → Same n r) → Same (suc n) s
      go _ (thirteen b r) h ih =
          let x = ch (name_of b) in
          let t = hidden_records ch n r in
          let like = ih r (omega arith) in
          record {
            size = omega (arith, same_length x b t, like.size);
            taken = ap₂ ◌&&◌ (same_taken x b r t) (like.taken ∙ ap (all_taken register_part n) (sym (same_rest x b t)));
            registers = ap₂ ◌∷◌ (same_register x b r t) (like.registers ∙ ap (λ (z : List ℕ). map (hide_register ch) (values register_part n z)) (sym (same_rest x b t)));
          }

  -- a list, and the same list hidden
  pub whole_hidden : (s : List ℕ) → whole_list register_part s ≡ whole_list register_part (hidden_records ch (length s / 13) s)
  unfolding whole_list register_part fields name_part flag
  whole_hidden s =
      let n = length s / 13 in
      let like = same n s (omega arith) in
      let t = hidden_records ch n s in
      ap₂ ◌&&◌ (ap (λ (k : ℕ). eqb (k % 13) 0) (sym like.size)) (like.taken ∙ ap (λ (k : ℕ). all_taken register_part (k / 13) t) (sym like.size))

  pub list_hidden : (s : List ℕ) → map (hide_register ch) (list_in register_part s) ≡ map (hide_register ch) (list_in register_part (hidden_records ch (length s / 13) s))
  unfolding list_in register_part fields name_part flag
  list_hidden s =
      let n = length s / 13 in
      let like = same n s (omega arith) in
      like.registers ∙ ap (λ (k : ℕ). map (hide_register ch) (values register_part (k / 13) (hidden_records ch n s))) (sym like.size)
