-- `diagnosis::apdus::is_aarq_accepted` meets its contract.
use mathlib.Core.Path.{◌≡◌, sym, ap, ◌∙◌}
use native.Mathlib.Omega.{arith}
use borrow.Author.Rules.{rules}
use lib.ListN.{length}
use Rattle.std.specs.Prelude.{Some}
use Rattle.acse.proofs.AarqLaws.{ciphered_told}
use Rattle.envelope.proofs.ShapeLaws.{to_end}
use Rattle.diagnosis.proofs.apdus.is_aarq_accepted.Goals as goal

pub slice_bounds-is_ciphered_accepted-count : goal.slice_bounds-is_ciphered_accepted-count
slice_bounds-is_ciphered_accepted-count c =
    let s = c.args in
    let q = sym c.read_aarq.ensures ∙ c.in-Some-Ciphered.is ∙ ap Some c.in-Some-Ciphered.field-0-is in
    let n : length c.title_of-title.result ≡ 8 = search rules in
    let k = ciphered_told s.apdu.now _ _ n q in
    omega (arith, k.envelope_place, k.long)

pub slice_bounds-is_ciphered_accepted-start : goal.slice_bounds-is_ciphered_accepted-start
slice_bounds-is_ciphered_accepted-start c =
    let s = c.args in
    let q = sym c.read_aarq.ensures ∙ c.in-Some-Ciphered.is ∙ ap Some c.in-Some-Ciphered.field-0-is in
    let n : length c.title_of-title.result ≡ 8 = search rules in
    let k = ciphered_told s.apdu.now _ _ n q in
    omega (arith, k.envelope_place, k.long)

pub returns-in-Some-Ciphered : goal.returns-in-Some-Ciphered
returns-in-Some-Ciphered c =
    let s = c.args in
    rw (sym c.title_of-title.ensures, sym c.read_aarq.ensures ∙ c.in-Some-Ciphered.is ∙ ap Some c.in-Some-Ciphered.field-0-is) (rw (to_end s.apdu.now _) at c.is_ciphered_accepted.ensures)
