-- `entering::aarq::initiate` meets its contract.
use mathlib.Core.Path.{sym, ◌∙◌}
use native.Mathlib.Omega.{arith}
use lib.ListN.{replicate}
use Rattle.wire.proofs.ReadingLaws.{fill_here}
use Rattle.acse.proofs.AarqLaws.{keyed_told}
use Rattle.entering.proofs.aarq.initiate.Goals as goal

pub returns-in-Some : goal.returns-in-Some
returns-in-Some c e b =
    let t = c.args.text.now in
    let read = sym c.read_request.ensures in
    let k = keyed_told t (read ∙ c.in-Some.is) in
    rw (read, c.in-Some.is, sym (c.array_at-dedicated.ensures ∙ fill_here t _ (replicate 16 0) (omega (arith, k.key_place, k.long))), sym (c.array_at-proposed.ensures ∙ fill_here t _ (replicate 3 0) (omega (arith, k.services_place, k.long))))
    (c.accept_ciphered.ensures e b)

pub returns-in-None : goal.returns-in-None
returns-in-None c e b =
    rw (sym c.read_request.ensures, c.in-None.is) (c.reject_aarq.ensures b)
