-- `entering::aarq::associate` meets its contract.
use mathlib.Core.Path.{sym, ap, ◌∙◌}
use native.Mathlib.Omega.{arith}
use lib.ListN.{length, replicate}
use Rattle.wire.proofs.ReadingLaws.{fill_here}
use Rattle.acse.proofs.AarqLaws.{plain_told, ciphered_told}
use Rattle.envelope.proofs.ShapeLaws.{to_end}
use Rattle.entering.proofs.Lengths.{title_long}
use Rattle.entering.proofs.aarq.associate.Goals as goal

pub slice_bounds-open_from-count : goal.slice_bounds-open_from-count
slice_bounds-open_from-count c =
    let apdu = c.args.apdu.now in
    let q = (rw c.in-Some-Ciphered.field-0-is at (sym c.read_aarq.ensures ∙ c.in-Some-Ciphered.is)) in
    let k = ciphered_told apdu _ _ (ap length c.title_of-title.ensures ∙ title_long c.args.line _ c.well_formed.0 c.args.client) q in
    omega (arith, k.envelope_place, k.long)

pub slice_bounds-open_from-start : goal.slice_bounds-open_from-start
slice_bounds-open_from-start c =
    let apdu = c.args.apdu.now in
    let q = (rw c.in-Some-Ciphered.field-0-is at (sym c.read_aarq.ensures ∙ c.in-Some-Ciphered.is)) in
    let k = ciphered_told apdu _ _ (ap length c.title_of-title.ensures ∙ title_long c.args.line _ c.well_formed.0 c.args.client) q in
    omega (arith, k.envelope_place, k.long)

pub returns-in-Some-Plain : goal.returns-in-Some-Plain
returns-in-Some-Plain c b =
    let apdu = c.args.apdu.now in
    let q = (rw c.in-Some-Plain.field-0-is at (sym c.read_aarq.ensures ∙ c.in-Some-Plain.is)) in
    let k = plain_told apdu _ _ (ap length c.title_of-title.ensures ∙ title_long c.args.line _ c.well_formed.0 c.args.client) q in
    rw (sym c.title_of-title.ensures, q, sym (c.array_at-proposed.ensures ∙ fill_here apdu _ (replicate 3 0) (omega (arith, k.place, k.long))))
    (c.accept_from.ensures b)

pub returns-in-Some-Ciphered : goal.returns-in-Some-Ciphered
returns-in-Some-Ciphered c b =
    let apdu = c.args.apdu.now in
    let q = (rw c.in-Some-Ciphered.field-0-is at (sym c.read_aarq.ensures ∙ c.in-Some-Ciphered.is)) in
    let k = ciphered_told apdu _ _ (ap length c.title_of-title.ensures ∙ title_long c.args.line _ c.well_formed.0 c.args.client) q in
    rw (sym c.title_of-title.ensures, q, sym (c.array_at-theirs.ensures ∙ fill_here apdu _ (replicate 8 0) (omega (arith, k.challenge_place, k.long))))
    (rw (to_end apdu _) at (c.open_from.ensures b))

pub returns-in-None : goal.returns-in-None
returns-in-None c b =
    rw (sym c.title_of-title.ensures, sym c.read_aarq.ensures ∙ c.in-None.is) (c.reject_aarq.ensures b)
