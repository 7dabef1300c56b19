-- `diagnosis::state::find_in_rows` meets its contract.
use mathlib.Core.Path.{refl, sym, ap, ◌∙◌}
use Rattle.std.specs.Prelude.{Err}
use Rattle.body.specs.View.{body_of}
use Rattle.store.proofs.StoreLaws.{columns_counted}
use Rattle.store.proofs.Lengths.{rows_long}
use Rattle.call_tests.specs.Road.{rows_finds}
use Rattle.diagnosis.proofs.StateLaws.{rows_blank, rows_few}
use Rattle.diagnosis.proofs.state.find_in_rows.Goals.{then-body-gt15-via-then-body-gt15, then-body-gt15-via-else-body-gt15+then-not-clocks_valid}
use Rattle.diagnosis.proofs.state.find_in_rows.Goals as goal

pub returns-then-body-gt15 : goal.returns-then-body-gt15
unfolding rows_finds body_of
returns-then-body-gt15 c =
    let rows = c.args.body.rows in
    elim c.then-body-gt15.branch [
      | then-body-gt15-via-then-body-gt15 w ↦
          rw (rows_blank rows (rows_long rows _ c.well_formed.0.1.1.1.1.1.1.1.1.0) w.if-body-gt15.true) (ap Err c.into.ensures)
      | then-body-gt15-via-else-body-gt15+then-not-clocks_valid w ↦
          rw (sym w.clocks_valid.ensures ∙ w.if-not-clocks_valid.true) (ap Err c.into.ensures)
    ]

pub returns-then-not-cells_match : goal.returns-then-not-cells_match
unfolding rows_finds body_of
returns-then-not-cells_match c =
    let b = c.args.body in
    rw (sym c.clocks_valid.ensures ∙ c.if-not-clocks_valid.false, rows_few b.rows c.if-body-gt15.false, columns_counted b.columns, sym c.cells_match.ensures ∙ c.if-not-cells_match.true) (ap Err c.into-then-not-cells_match.ensures)

pub returns : goal.returns
unfolding rows_finds body_of
returns c =
    let b = c.args.body in
    rw (sym c.clocks_valid.ensures ∙ c.if-not-clocks_valid.false, rows_few b.rows c.if-body-gt15.false, columns_counted b.columns, sym c.cells_match.ensures ∙ c.if-not-cells_match.false) refl
