-- `diagnosis::find` meets its contract.
use mathlib.Core.Path.{sym, ◌∙◌}
use borrow.Author.Rules.{rules}
use lib.ListN.{replicate}
use Rattle.std.proofs.lemmas.Result.{err_from_is_err_and}
use Rattle.wire.proofs.ReadingLaws.{filled_whole}
use Rattle.meter.specs.View.{view}
use Rattle.p2.specs.Promise.{lent}
use Rattle.diagnosis.proofs.CallLaws.{lent_found, unsound_found, heard_found, sound_state, right_lent}
use Rattle.diagnosis.proofs.find.Goals as goal

pub returns-in_err-find_lent : goal.returns-in_err-find_lent
returns-in_err-find_lent c =
    let s = c.args in
    let p = err_from_is_err_and c.from_residual.result c.from_residual.ensures.1 in
    rw (p.1, p.2) (lent_found (view s.meter) _ (sym (c.find_lent.ensures (view s.meter) s.frame.now) ∙ c.in_err-find_lent.was))

pub returns-in_err-find_unsound : goal.returns-in_err-find_unsound
returns-in_err-find_unsound c =
    let s = c.args in
    let p = err_from_is_err_and c.from_residual-in_err-find_unsound.result c.from_residual-in_err-find_unsound.ensures.1 in
    rw (p.1, p.2) (unsound_found (view s.meter) _ (sym (c.find_lent.ensures (view s.meter) s.frame.now) ∙ c.in_ok-find_lent.was) (sym (c.find_unsound.ensures _) ∙ c.in_err-find_unsound.was))

pub invariant_of-hear : goal.invariant_of-hear
invariant_of-hear c =
    let s = c.args in
    let h = sound_state (view s.meter) (lent s.room s.guk.now s.ak.now s.challenge.now s.frame.now) (sym (c.find_unsound.ensures _) ∙ c.in_ok-find_unsound.was) in
    search rules

pub returns : goal.returns
unfolding view
returns c =
    let s = c.args in
    let e = sym (c.find_lent.ensures (view s.meter) s.frame.now) ∙ c.in_ok-find_lent.was in
    let right = right_lent (view s.meter) _ e in
    heard_found (view s.meter) _ e (sym (c.find_unsound.ensures _) ∙ c.in_ok-find_unsound.was)
    (rw (c.secrets_of-secrets.ensures, filled_whole s.guk.now (replicate 16 0) right.guk, filled_whole s.ak.now (replicate 16 0) right.ak, filled_whole s.challenge.now (replicate 8 0) right.challenge) at c.hear.ensures)
