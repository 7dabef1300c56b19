-- `acse::read::ciphered_aarq_end` meets its contract: piece by piece.
use Rattle.acse.specs.Aarq.{aarq_start, mechanism_pieces}
use Rattle.acse.proofs.PieceLaws.{passed_bad, passed_last, passed_not, passed_on, passed_past}
use Rattle.acse.proofs.read.ciphered_aarq_end.Goals as goal

pub returns-in_err-requirements : goal.returns-in_err-requirements
returns-in_err-requirements c =
    let a = c.args in
    rw c.from_residual.ensures
    (passed_not (aarq_start 0x66 a.client a.title.now) _ _ _ c.start_end.ensures c.in_err-requirements.was)

pub returns-in_err-mechanism : goal.returns-in_err-mechanism
returns-in_err-mechanism c =
    let a = c.args in
    rw c.from_residual-in_err-mechanism.ensures
    (passed_past (aarq_start 0x66 a.client a.title.now) _ _ _ c.start_end.ensures c.in_ok-requirements.was
    (passed_bad _ _ _ _ c.expect_at.ensures c.in_err-mechanism.was))

pub returns-in_err-value : goal.returns-in_err-value
returns-in_err-value c =
    let a = c.args in
    rw c.from_residual-in_err-value.ensures
    (passed_past (aarq_start 0x66 a.client a.title.now) _ _ _ c.start_end.ensures c.in_ok-requirements.was
    (passed_on _ _ _ _ c.expect_at.ensures c.in_ok-mechanism.was
    (passed_not (mechanism_pieces a.client) _ _ _ c.mechanism_end.ensures c.in_err-value.was)))

pub returns-in_err-challenge : goal.returns-in_err-challenge
returns-in_err-challenge c =
    let a = c.args in
    rw c.from_residual-in_err-challenge.ensures
    (passed_past (aarq_start 0x66 a.client a.title.now) _ _ _ c.start_end.ensures c.in_ok-requirements.was
    (passed_on _ _ _ _ c.expect_at.ensures c.in_ok-mechanism.was
    (passed_past (mechanism_pieces a.client) _ _ _ c.mechanism_end.ensures c.in_ok-value.was
    (passed_bad _ _ _ _ c.expect_at-2.ensures c.in_err-challenge.was))))

pub returns-in_err-information : goal.returns-in_err-information
returns-in_err-information c =
    let a = c.args in
    rw c.from_residual-in_err-information.ensures
    (passed_past (aarq_start 0x66 a.client a.title.now) _ _ _ c.start_end.ensures c.in_ok-requirements.was
    (passed_on _ _ _ _ c.expect_at.ensures c.in_ok-mechanism.was
    (passed_past (mechanism_pieces a.client) _ _ _ c.mechanism_end.ensures c.in_ok-value.was
    (passed_on _ _ _ _ c.expect_at-2.ensures c.in_ok-challenge.was
    (passed_bad _ _ _ _ c.skip_at.ensures c.in_err-information.was)))))

pub returns-in_err-envelope : goal.returns-in_err-envelope
returns-in_err-envelope c =
    let a = c.args in
    rw c.from_residual-in_err-envelope.ensures
    (passed_past (aarq_start 0x66 a.client a.title.now) _ _ _ c.start_end.ensures c.in_ok-requirements.was
    (passed_on _ _ _ _ c.expect_at.ensures c.in_ok-mechanism.was
    (passed_past (mechanism_pieces a.client) _ _ _ c.mechanism_end.ensures c.in_ok-value.was
    (passed_on _ _ _ _ c.expect_at-2.ensures c.in_ok-challenge.was
    (passed_on _ _ _ _ c.skip_at.ensures c.in_ok-information.was
    (passed_bad _ _ _ _ c.expect_at-3.ensures c.in_err-envelope.was))))))

pub returns : goal.returns
returns c =
    let a = c.args in
    passed_past (aarq_start 0x66 a.client a.title.now) _ _ _ c.start_end.ensures c.in_ok-requirements.was
    (passed_on _ _ _ _ c.expect_at.ensures c.in_ok-mechanism.was
    (passed_past (mechanism_pieces a.client) _ _ _ c.mechanism_end.ensures c.in_ok-value.was
    (passed_on _ _ _ _ c.expect_at-2.ensures c.in_ok-challenge.was
    (passed_on _ _ _ _ c.skip_at.ensures c.in_ok-information.was
    (passed_on _ _ _ _ c.expect_at-3.ensures c.in_ok-envelope.was
    (passed_last _ _ _ c.skip_at-2.ensures))))))
