-- The places of the fields, added up from the layout.
use mathlib.Core.Path.{◌≡◌, refl, subst⁻¹, ap, ◌∙◌}
use mathlib.Core.List.{List, [], ◌∷◌}
use Prim.Native.Nat.{ℕ, ◌+◌, ◌*◌, ◌<◌}
use lib.ListN.{drop, get_or}
use lib.Seq.{drop-drop}
use Rattle.model.specs.Names.{blank_name, blank_register}
use Rattle.model.specs.declared.Register.{Register}
use Rattle.store.specs.declared.Row.{Row}
use Rattle.picks.specs.declared.Transfer.{Transfer}
use Rattle.image.specs.Codec.{Codec, block, byte, fields, flag, number, phase, progress, picking_kind, values, Got}
use Rattle.image.specs.Layout.{party_part, counters_part, cipher_party_part, line_part, name_part, clock_part, register_part, registers_part, columns_part, row_part, rows_part, picking_part, transfer_part, body_part, meter_part}
use Rattle.image.specs.Image.{meter_of}
use Rattle.image.proofs.LoopLaws.{value_at_lem}
use Rattle.image.specs.Places.{LineAt, BodyAt, RegisterAt, RowAt, TransferAt, Places}

-- from place to place
abbrev onward : List ℕ → List ℕ → List ℕ
onward [] s = s
onward (m ∷ ms) s = onward ms (drop m s)

abbrev sum : ℕ → List ℕ → ℕ
sum n [] = n
sum n (m ∷ ms) = sum (n + m) ms

far : (ms : List ℕ) (n : ℕ) (s : List ℕ) → onward ms (drop n s) ≡ drop (sum n ms) s
far [] n s = refl
far (m ∷ ms) n s = ap (onward ms) (drop-drop m n s) ∙ far ms (n + m) s

-- a field whose part stands past some others
past : {A : Type 0} (c : Codec A) (ms : List ℕ) (n : ℕ) (s : List ℕ) → Got c s (sum n ms) (c.value (onward ms (drop n s)))
past c ms n s = record { is = ap c.value (far ms n s) }

-- a field past some others of a part that stands at p
within : {A : Type 0} (c : Codec A) (ms : List ℕ) (n p : ℕ) (s : List ℕ) → Got c s (p + sum n ms) (c.value (onward ms (drop n (drop p s))))
within c ms n p s = record { is = ap c.value (far ms n (drop p s) ∙ drop-drop (sum n ms) p s) }

-- element i of an array
item : {A : Type 0} (c : Codec A) (count : ℕ) (ms : List ℕ) (n : ℕ) (s : List ℕ) (i : ℕ) (d : A) → i < count → Got c s (sum n ms + i * c.size) (get_or (values c count (onward ms (drop n s))) i d)
item c count ms n s i d h =
    record {
      is = value_at_lem c count (onward ms (drop n s)) i d h ∙ ap c.value (ap (drop (i * c.size)) (far ms n s) ∙ drop-drop (i * c.size) (sum n ms) s);
    }

line_places : (s : List ℕ) → LineAt s (meter_of s).line
unfolding meter_of meter_part line_part party_part cipher_party_part counters_part flag phase fields
line_places s =
    record {
      title = past (block 8) [] 1 s;
      verification = record {
        title = past (block 8) (8 ∷ []) 1 s;
        up = past flag (8 ∷ 8 ∷ []) 1 s;
        kind = past phase (8 ∷ 8 ∷ 1 ∷ []) 1 s;
        agreed = past (block 3) (8 ∷ 8 ∷ 1 ∷ 1 ∷ []) 1 s;
      };
      han = record {
        title = past (block 8) (8 ∷ 13 ∷ []) 1 s;
        up = past flag (8 ∷ 13 ∷ 8 ∷ []) 1 s;
        kind = past phase (8 ∷ 13 ∷ 8 ∷ 1 ∷ []) 1 s;
        agreed = past (block 3) (8 ∷ 13 ∷ 8 ∷ 1 ∷ 1 ∷ []) 1 s;
      };
      key = past (block 16) (8 ∷ 13 ∷ 13 ∷ []) 1 s;
      client = past (block 8) (8 ∷ 13 ∷ 13 ∷ 16 ∷ []) 1 s;
      meter = past (block 8) (8 ∷ 13 ∷ 13 ∷ 16 ∷ 8 ∷ []) 1 s;
      accepted = past (number 4) (8 ∷ 13 ∷ 13 ∷ 16 ∷ 8 ∷ 8 ∷ []) 1 s;
      sent = past (number 4) (8 ∷ 13 ∷ 13 ∷ 16 ∷ 8 ∷ 8 ∷ 4 ∷ []) 1 s;
      p5 = past flag (8 ∷ 13 ∷ 53 ∷ []) 1 s;
    }

body_places : (s : List ℕ) → BodyAt s (meter_of s).body
unfolding meter_of meter_part line_part party_part cipher_party_part counters_part body_part clock_part registers_part columns_part rows_part register_part name_part row_part flag phase fields
body_places s =
    record {
      device = past (block 16) (75 ∷ []) 1 s;
      clock = past clock_part (75 ∷ 16 ∷ []) 1 s;
      period = past (number 4) (75 ∷ 16 ∷ 12 ∷ []) 1 s;
      record_number = past (number 2) (75 ∷ 16 ∷ 12 ∷ 4 ∷ []) 1 s;
      register_count = past (number 8) (75 ∷ 16 ∷ 12 ∷ 4 ∷ 2 ∷ []) 1 s;
      registers = λ i h. item register_part 16 (75 ∷ 16 ∷ 12 ∷ 4 ∷ 2 ∷ 8 ∷ []) 1 s i blank_register h;
      column_count = past (number 8) (75 ∷ 16 ∷ 12 ∷ 4 ∷ 2 ∷ 216 ∷ []) 1 s;
      columns = λ i h. item name_part 16 (75 ∷ 16 ∷ 12 ∷ 4 ∷ 2 ∷ 216 ∷ 8 ∷ []) 1 s i blank_name h;
      row_count = past (number 8) (75 ∷ 16 ∷ 12 ∷ 4 ∷ 2 ∷ 216 ∷ 104 ∷ []) 1 s;
      rows = λ i d h. item row_part 15 (75 ∷ 16 ∷ 12 ∷ 4 ∷ 2 ∷ 216 ∷ 104 ∷ 8 ∷ []) 1 s i d h;
      transfer = past transfer_part (75 ∷ 16 ∷ 12 ∷ 4 ∷ 2 ∷ 216 ∷ 104 ∷ 1298 ∷ []) 1 s;
    }

register_places : (s : List ℕ) (p : ℕ) {x : Register} → Got register_part s p x → RegisterAt s p x
unfolding register_part name_part flag fields
register_places s p {x} g =
    subst⁻¹ (λ (y : Register). RegisterAt s p y) g.is
    (record {
      name = record { is = refl };
      readable = within flag [] 6 p s;
      scaler = within byte (1 ∷ []) 6 p s;
      unit = within byte (1 ∷ 1 ∷ []) 6 p s;
      value = within (number 4) (1 ∷ 1 ∷ 1 ∷ []) 6 p s;
    })

row_places : (s : List ℕ) (p : ℕ) {x : Row} → Got row_part s p x → RowAt s p x
unfolding row_part clock_part fields
row_places s p {x} g =
    subst⁻¹ (λ (y : Row). RowAt s p y) g.is
    (record {
      record_number = record { is = refl };
      clock = within (block 12) [] 2 p s;
      count = within (number 8) (12 ∷ []) 2 p s;
      cells = λ i h.
          record {
            is = value_at_lem (number 4) 16 (onward (12 ∷ 8 ∷ []) (drop 2 (drop p s))) i 0 h
                ∙ ap (number 4).value (ap (drop (i * 4)) (far (12 ∷ 8 ∷ []) 2 (drop p s) ∙ drop-drop 22 p s) ∙ drop-drop (i * 4) (p + 22) s);
          };
    })

transfer_places : (s : List ℕ) (p : ℕ) {x : Transfer} → Got transfer_part s p x → TransferAt s p x
unfolding transfer_part picking_part clock_part progress picking_kind fields
transfer_places s p {x} g =
    subst⁻¹ (λ (y : Transfer). TransferAt s p y) g.is
    (record {
      state = record { is = refl };
      kind = within picking_kind [] 1 p s;
      after = within (block 12) (1 ∷ []) 1 p s;
      until = within (block 12) (1 ∷ 12 ∷ []) 1 p s;
      from = within (number 4) (1 ∷ 12 ∷ 12 ∷ []) 1 p s;
      to = within (number 4) (1 ∷ 12 ∷ 12 ∷ 4 ∷ []) 1 p s;
      last = within (number 4) (33 ∷ []) 1 p s;
    })

pub places : Places
places = record { line = line_places; body = body_places; register = register_places; row = row_places; transfer = transfer_places }
