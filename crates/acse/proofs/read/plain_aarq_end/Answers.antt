-- `acse::read::plain_aarq_end` meets its contract: piece by piece.
use Rattle.acse.specs.Aarq.{aarq_start, mechanism_pieces}
use Rattle.acse.proofs.PieceLaws.{passed_bad, passed_not, passed_on, passed_past}
use Rattle.acse.proofs.read.plain_aarq_end.Goals as goal

pub returns-in_err-mechanism : goal.returns-in_err-mechanism
returns-in_err-mechanism c =
    let a = c.args in
    rw c.from_residual.ensures
    (passed_not (aarq_start 0x32 a.client a.title.now) _ _ _ c.start_end.ensures c.in_err-mechanism.was)

pub returns-in_err-information : goal.returns-in_err-information
returns-in_err-information c =
    let a = c.args in
    rw c.from_residual-in_err-information.ensures
    (passed_past (aarq_start 0x32 a.client a.title.now) _ _ _ c.start_end.ensures c.in_ok-mechanism.was
    (passed_not (mechanism_pieces a.client) _ _ _ c.mechanism_end.ensures c.in_err-information.was))

pub returns-in_err-request : goal.returns-in_err-request
returns-in_err-request c =
    let a = c.args in
    rw c.from_residual-in_err-request.ensures
    (passed_past (aarq_start 0x32 a.client a.title.now) _ _ _ c.start_end.ensures c.in_ok-mechanism.was
    (passed_past (mechanism_pieces a.client) _ _ _ c.mechanism_end.ensures c.in_ok-information.was
    (passed_bad _ _ _ _ c.expect_at.ensures c.in_err-request.was)))

pub returns-in_err-present : goal.returns-in_err-present
returns-in_err-present c =
    let a = c.args in
    rw c.from_residual-in_err-present.ensures
    (passed_past (aarq_start 0x32 a.client a.title.now) _ _ _ c.start_end.ensures c.in_ok-mechanism.was
    (passed_past (mechanism_pieces a.client) _ _ _ c.mechanism_end.ensures c.in_ok-information.was
    (passed_on _ _ _ _ c.expect_at.ensures c.in_ok-request.was
    (passed_bad _ _ _ _ c.expect_at-2.ensures c.in_err-present.was))))

pub returns-in_err-rest : goal.returns-in_err-rest
returns-in_err-rest c =
    let a = c.args in
    rw c.from_residual-in_err-rest.ensures
    (passed_past (aarq_start 0x32 a.client a.title.now) _ _ _ c.start_end.ensures c.in_ok-mechanism.was
    (passed_past (mechanism_pieces a.client) _ _ _ c.mechanism_end.ensures c.in_ok-information.was
    (passed_on _ _ _ _ c.expect_at.ensures c.in_ok-request.was
    (passed_on _ _ _ _ c.expect_at-2.ensures c.in_ok-present.was
    (passed_bad _ _ _ _ c.expect_at-3.ensures c.in_err-rest.was)))))

pub returns : goal.returns
returns c =
    let a = c.args in
    passed_past (aarq_start 0x32 a.client a.title.now) _ _ _ c.start_end.ensures c.in_ok-mechanism.was
    (passed_past (mechanism_pieces a.client) _ _ _ c.mechanism_end.ensures c.in_ok-information.was
    (passed_on _ _ _ _ c.expect_at.ensures c.in_ok-request.was
    (passed_on _ _ _ _ c.expect_at-2.ensures c.in_ok-present.was
    (passed_on _ _ _ _ c.expect_at-3.ensures c.in_ok-rest.was
    c.request_end.ensures))))
