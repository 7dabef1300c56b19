-- Soundness of the whole from its two halves, and the three ways in which an owner's call ends: refused by 3, refused by its
-- own number, accepted; then, for each call, that the meter in code is the one that the model says.
use mathlib.Core.Path.{◌≡◌, refl, sym, ◌∙◌}
use mathlib.Core.Bool.{Bool, true, false, ◌&&◌, and_assoc, and-true, and-false}
use mathlib.Core.List.{[]}
use Prim.Native.Nat.{ℕ}
use Rattle.std.specs.Prelude.{Some}
use Rattle.model.specs.declared.Name.{Name}
use Rattle.model.specs.declared.Clock.{Clock}
use Rattle.model.specs.Names.{given}
use Rattle.model.specs.Clocks.{valid_clock}
use Rattle.model.specs.Periods.{permitted_period}
use Rattle.model.specs.declared.SoundnessTest.TheVariants.{RegisterList, ColumnList, PeriodPermitted, ClockValid, RowClocksValid, RowCount, RowCells, AssociationKind, AssociationOnLink, AgreedServices}
use Rattle.model.specs.State.{broken}
use Rattle.model.specs.Soundness.{passes, accepted_registers, accepted_columns, allowed, rows_allow, sound, line_sound}
use Rattle.model.specs.Calls.{OwnerCall, owner, give_registers, set_value, set_columns, set_period, tick, set_p5, power_up, refused, done, Protocol, ticked, powered_line, act, step}
use Rattle.model.proofs.ListLaws.{both}
use Rattle.store.specs.Held.{Registers, Columns, Rows}
use Rattle.store.specs.Lists.{registers_of, columns_of, entries_of}
use Rattle.store.specs.Promises.{Assigns}
use Rattle.picks.specs.declared.Transfer.{Transfer}
use Rattle.picks.specs.Canonical.{no_transfer}
use Rattle.picks.specs.Transfers.{transfer_of}
use Rattle.line.specs.declared.LineState.{LineState}
use Rattle.line.specs.View.{line_of}
use Rattle.body.specs.declared.BodyState.{BodyState}
use Rattle.body.specs.View.{body_of, rows_sound, body_sound, Fit}
use Rattle.body.proofs.BodyLaws.{sound_fits}
use Rattle.meter.specs.declared.Meter.{Meter}
use Rattle.meter.specs.View.{view}
use Rattle.meter.specs.Promise.{Owned, changed}

-- Soundness.

-- what a transfer asks of the rows, x, stands with the rows, and what it asks of the line, k, with the line
regroup : (a b c d e f g h i j k x : Bool) → a && (b && (c && (d && (e && (f && (g && (h && (i && (j && (k && x && true))))))))))
    ≡ a && (b && (c && (d && (e && (f && g) && x)))) && (h && i && j && k)
regroup a b c d e f g h i j k true = simp (and_assoc, and-true)
regroup a b c d e f g h i j k false = simp (and_assoc, and-false)

pub sound_is : (m : Meter)
    → sound (view m) ≡ (body_sound (body_of m.body) && (line_sound (line_of m.line) && allowed (line_of m.line) (transfer_of m.body.transfer)))
unfolding sound body_sound rows_sound view body_of
sound_is m =
    regroup (passes RegisterList (view m)) (passes ColumnList (view m)) (passes PeriodPermitted (view m)) (passes ClockValid (view m))
    (passes RowClocksValid (view m)) (passes RowCount (view m)) (passes RowCells (view m)) (passes AssociationKind (view m))
    (passes AssociationOnLink (view m)) (passes AgreedServices (view m)) (allowed (view m).line (view m).body.transfer)
    (rows_allow (view m).body.store (view m).body.transfer)

pub sound_body : (m : Meter) → sound (view m) ≡ true → body_sound (body_of m.body) ≡ true
sound_body m s = (both (body_sound (body_of m.body)) _ (sym (sound_is m) ∙ s)).0

pub fits : (m : Meter) → sound (view m) ≡ true → Fit m.body
fits m s = sound_fits m.body (sound_body m s)

-- How a call ends.

module _ (c : OwnerCall) (m : Meter) where
  pub unsound : sound (view m) ≡ false → Owned c m (changed 3 m)
  unfolding step
  unsound s = record { promised = λ p. rw s (record { refusal = refl; count = refl; meter = refl; room = refl }); kept = λ _. refl }

  pub refuses : (n : ℕ) → sound (view m) ≡ true → ((p : Protocol) → act p (owner c) (view m) ≡ refused n (view m)) → Owned c m (changed n m)
  unfolding step
  refuses n s h = record { promised = λ p. rw (s, h p) (record { refusal = refl; count = refl; meter = refl; room = refl }); kept = λ _. refl }

  pub accepts : (next : Meter) → sound (view m) ≡ true → ((p : Protocol) → act p (owner c) (view m) ≡ done (view next)) → Owned c m (changed 0 next)
  unfolding step
  accepts next s h = record { promised = λ p. rw (s, h p) (record { refusal = refl; count = refl; meter = refl; room = refl }); kept = λ k. absurd (k refl) }

-- The meters.

abbrev pub with_body_state : BodyState → Meter → Meter
with_body_state b m = record { line = m.line; body = b }

abbrev pub with_stores : Registers → Columns → Rows → Transfer → BodyState → BodyState
with_stores r c w x b =
    record { device = b.device; clock = b.clock; period = b.period; number = b.number; registers = r; columns = c; rows = w; transfer = x }

module _ (p : Protocol) (m : Meter) where
  pub registers_refused : (s : Registers) → accepted_registers (registers_of s) ≡ false → act p (owner (give_registers (registers_of s))) (view m) ≡ refused 16 (view m)
  unfolding act
  registers_refused s h = rw h

  pub registers_given : (s : Registers) (c : Columns) (w : Rows) (x : Transfer) → accepted_registers (registers_of s) ≡ true → columns_of c ≡ [] → entries_of w ≡ []
      → transfer_of x ≡ broken (transfer_of m.body.transfer)
      → act p (owner (give_registers (registers_of s))) (view m) ≡ done (view (with_body_state (with_stores s c w x m.body) m))
  unfolding act view body_of
  registers_given s c w x h e f g = rw (h, e, f, g)

  pub value_refused : (n : Name) (v : ℕ) → given n (registers_of m.body.registers) ≡ false → act p (owner (set_value n v)) (view m) ≡ refused 17 (view m)
  unfolding act view body_of
  value_refused n v h = rw h

  pub value_set : (n : Name) (v : ℕ) (s : Registers) → Assigns m.body.registers n v (Some s)
      → act p (owner (set_value n v)) (view m) ≡ done (view (with_body_state (with_stores s m.body.columns m.body.rows m.body.transfer m.body) m))
  unfolding act view body_of
  value_set n v s h = rw (← h.found, h.set)

  pub columns_refused : (c : Columns) → accepted_columns (registers_of m.body.registers) (columns_of c) ≡ false → act p (owner (set_columns (columns_of c))) (view m) ≡ refused 18 (view m)
  unfolding act view body_of
  columns_refused c h = rw h

  pub columns_set : (c : Columns) (w : Rows) (x : Transfer) → accepted_columns (registers_of m.body.registers) (columns_of c) ≡ true → entries_of w ≡ []
      → transfer_of x ≡ broken (transfer_of m.body.transfer)
      → act p (owner (set_columns (columns_of c))) (view m) ≡ done (view (with_body_state (with_stores m.body.registers c w x m.body) m))
  unfolding act view body_of
  columns_set c w x h e f = rw (h, e, f)

  pub period_refused : (d : ℕ) → permitted_period d ≡ false → act p (owner (set_period d)) (view m) ≡ refused 15 (view m)
  unfolding act
  period_refused d h = rw h

  pub period_set : (d : ℕ) → permitted_period d ≡ true
      → act p (owner (set_period d)) (view m)
      ≡ done (view (with_body_state (record { device = m.body.device; clock = m.body.clock; period = d; number = m.body.number; registers = m.body.registers; columns = m.body.columns; rows = m.body.rows; transfer = m.body.transfer }) m))
  unfolding act view body_of
  period_set d h = rw h

  pub tick_refused : (t : Clock) → valid_clock t ≡ false → act p (owner (tick t)) (view m) ≡ refused 14 (view m)
  unfolding act
  tick_refused t h = rw h

  pub tick_taken : (t : Clock) (b : BodyState) → valid_clock t ≡ true → body_of b ≡ ticked t (body_of m.body) → act p (owner (tick t)) (view m) ≡ done (view (with_body_state b m))
  unfolding act view
  tick_taken t b h e = rw (h, e)

  pub p5_set : (f : Bool) → act p (owner (set_p5 f)) (view m)
      ≡ done (view (record { line = record { title = m.line.title; verification = m.line.verification; han = m.line.han; p5 = f }; body = m.body }))
  unfolding act view line_of
  p5_set f = refl

  pub powered : (l : LineState) (w : Rows) (x : Transfer) → line_of l ≡ powered_line (line_of m.line) → entries_of w ≡ [] → x ≡ no_transfer
      → act p (owner power_up) (view m)
      ≡ done (view (record { line = l; body = record { device = m.body.device; clock = m.body.clock; period = m.body.period; number = 0; registers = m.body.registers; columns = m.body.columns; rows = w; transfer = x } }))
  unfolding act view body_of transfer_of
  powered l w x e f g = rw (e, f, g)
