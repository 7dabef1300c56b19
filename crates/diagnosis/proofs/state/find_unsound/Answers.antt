-- `diagnosis::state::find_unsound` meets its contract.
use mathlib.Core.Path.{sym, ◌∙◌}
use Rattle.std.proofs.lemmas.Result.{err_from_is_err_and}
use Rattle.meter.specs.View.{view}
use Rattle.diagnosis.proofs.CallLaws.{body_fails_lem, line_fails_lem, transfer_left}
use Rattle.diagnosis.proofs.state.find_unsound.Goals as goal

pub returns-in_err-find_in_body : goal.returns-in_err-find_in_body
unfolding view
returns-in_err-find_in_body c a =
    let p = err_from_is_err_and c.from_residual.result c.from_residual.ensures.1 in
    rw (p.1, p.2) (body_fails_lem (view c.args.meter) a (sym c.find_in_body.ensures ∙ c.in_err-find_in_body.was))

pub returns-in_err-find_in_line : goal.returns-in_err-find_in_line
unfolding view
returns-in_err-find_in_line c a =
    let p = err_from_is_err_and c.from_residual-in_err-find_in_line.result c.from_residual-in_err-find_in_line.ensures.1 in
    rw (p.1, p.2) (line_fails_lem (view c.args.meter) a (sym c.find_in_body.ensures ∙ c.in_ok-find_in_body.was) (sym c.find_in_line.ensures ∙ c.in_err-find_in_line.was))

pub returns : goal.returns
unfolding view
returns c a =
    transfer_left (view c.args.meter) a (sym c.find_in_body.ensures ∙ c.in_ok-find_in_body.was) (sym c.find_in_line.ensures ∙ c.in_ok-find_in_line.was) c.find_in_transfer.ensures
