-- `hdlc::read::Received::tested` meets its contract: each return by the stretch of tests that decides it.
use Rattle.std.proofs.Common.{◌≡◌, sym, ap, ◌∙◌, Some, None, arith}
use Rattle.std.proofs.lemmas.Result.{err_from_is_err_and, IfOk-weaker, IfErr-weaker}
use Rattle.hdlc.specs.Reading.{judged_frame}
use Rattle.hdlc.specs.declared.FrameTest.TheVariants.{WrongSource}
use Rattle.hdlc.proofs.ReadingLaws.{read_layout, read_checks, read_header, read_unknown, read_known}
use Rattle.hdlc.proofs.read.Received.tested.Goals as goal

pub returns-in_err-layout-clause-failed : goal.returns-in_err-layout-clause-failed
returns-in_err-layout-clause-failed c =
    let p = err_from_is_err_and c.from_residual.result c.from_residual.ensures.1 in
    rw (p.1, p.2) (read_layout c.args.self.now.bytes.now c.args.self.now.whole (sym c.layout.ensures ∙ c.in_err-layout.was))

pub returns-in_err-checks-clause-failed : goal.returns-in_err-checks-clause-failed
returns-in_err-checks-clause-failed c =
    let p = err_from_is_err_and c.from_residual-in_err-checks.result c.from_residual-in_err-checks.ensures.1 in
    let laid = sym c.layout.ensures ∙ c.in_ok-layout.was in
    rw (p.1, p.2) (read_checks c.args.self.now.bytes.now c.args.self.now.whole laid (sym c.checks.ensures ∙ c.in_err-checks.was))

pub returns-in_err-header-clause-failed : goal.returns-in_err-header-clause-failed
returns-in_err-header-clause-failed c =
    let p = err_from_is_err_and c.from_residual-in_err-header.result c.from_residual-in_err-header.ensures.1 in
    let laid = sym c.layout.ensures ∙ c.in_ok-layout.was in
    let checked = sym c.checks.ensures ∙ c.in_ok-checks.was in
    rw (p.1, p.2) (read_header c.args.self.now.bytes.now c.args.self.now.whole laid checked (sym c.header.ensures ∙ c.in_err-header.was))

pub returns-in_err-client-clause-failed : goal.returns-in_err-client-clause-failed
returns-in_err-client-clause-failed c =
    let p = err_from_is_err_and c.from_residual-in_err-client.result c.from_residual-in_err-client.ensures.1 in
    let laid = sym c.layout.ensures ∙ c.in_ok-layout.was in
    let checked = sym c.checks.ensures ∙ c.in_ok-checks.was in
    let headed = sym c.header.ensures ∙ c.in_ok-header.was in
    let unknown : c.sender.result ≡ None = grind arith in
    let test : c.in_err-client.field-0.0 ≡ WrongSource = grind arith in
    rw (p.1, p.2, test) (read_unknown c.args.self.now.bytes.now c.args.self.now.whole laid checked headed (sym c.sender.ensures ∙ unknown))

-- a client's frame is what its control makes of it
pub returns-clause-passed : goal.returns-clause-passed
returns-clause-passed c =
    let laid = sym c.layout.ensures ∙ c.in_ok-layout.was in
    let checked = sym c.checks.ensures ∙ c.in_ok-checks.was in
    let headed = sym c.header.ensures ∙ c.in_ok-header.was in
    let known : c.sender.result ≡ Some c.in_ok-client.client = grind arith in
    let judged = read_known c.args.self.now.bytes.now c.args.self.now.whole laid checked headed c.in_ok-client.client (sym c.sender.ensures ∙ known) in
    IfOk-weaker c.by_control.result _ _ (λ a h. judged ∙ ap (judged_frame c.args.self.now.bytes.now (Some c.in_ok-client.client)) h.0 ∙ sym h.1) c.by_control.ensures.passed

pub returns-clause-failed : goal.returns-clause-failed
returns-clause-failed c =
    let laid = sym c.layout.ensures ∙ c.in_ok-layout.was in
    let checked = sym c.checks.ensures ∙ c.in_ok-checks.was in
    let headed = sym c.header.ensures ∙ c.in_ok-header.was in
    let known : c.sender.result ≡ Some c.in_ok-client.client = grind arith in
    let judged = read_known c.args.self.now.bytes.now c.args.self.now.whole laid checked headed c.in_ok-client.client (sym c.sender.ensures ∙ known) in
    IfErr-weaker c.by_control.result _ _ (λ t h. judged ∙ ap (judged_frame c.args.self.now.bytes.now (Some c.in_ok-client.client)) h) c.by_control.ensures.failed
