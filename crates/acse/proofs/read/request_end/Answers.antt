-- `acse::read::request_end` meets its contract: piece by piece; the size is a number of two bytes.
use mathlib.Core.Path.{refl}
use Rattle.model.specs.Limits.{longest_sent, least_size}
use Rattle.acse.proofs.PieceLaws.{number_low_lem, number_on, passed_bad, passed_last, passed_on}
use Rattle.acse.proofs.read.request_end.Goals as goal

pub returns-then-value-lt-LEAST_SIZE : goal.returns-then-value-lt-LEAST_SIZE
unfolding least_size longest_sent
returns-then-value-lt-LEAST_SIZE c =
    passed_on _ _ _ _ c.expect_at.ensures c.in_ok-conformance.was
    (passed_on _ _ _ _ c.expect_at-2.ensures c.in_ok-services.was
    (passed_on _ _ _ _ c.skip_at.ensures c.in_ok-size.was
    (passed_bad _ _ _ _ (number_low_lem 2 _ _ _ c.number_at.ensures c.in_ok-value.was c.if-value-lt-LEAST_SIZE.true) refl)))

pub returns : goal.returns
unfolding least_size longest_sent
returns c =
    passed_on _ _ _ _ c.expect_at.ensures c.in_ok-conformance.was
    (passed_on _ _ _ _ c.expect_at-2.ensures c.in_ok-services.was
    (passed_on _ _ _ _ c.skip_at.ensures c.in_ok-size.was
    (passed_last _ _ _ (number_on 2 _ _ _ c.number_at.ensures c.in_ok-value.was c.if-value-lt-LEAST_SIZE.false))))
