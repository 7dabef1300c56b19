-- `envelope::open::open_envelope` meets its contract: by the shape, and then by GCM's answer for the part of the APDU itself.
use mathlib.Core.Path.{sym, ◌∙◌}
use Prim.Native.Nat.{◌≤◌}
use mathlib.Core.Bool.{true, false}
use lib.ListN.{length}
use native.Mathlib.Omega.{arith}
use borrow.Author.Rules.{rules}
use Rattle.material.specs.Material.{keys_of}
use Rattle.envelope.specs.Opening.{longest_apdu}
use Rattle.envelope.proofs.ShapeLaws.{longest_apdu_lem, places_of}
use Rattle.envelope.proofs.OpenLaws.{no_shape, handed, right_tag, wrong_tag}
use Rattle.envelope.proofs.open.open_envelope.Goals as goal

pub returns-in_err-shape : goal.returns-in_err-shape
returns-in_err-shape c =
    let a = c.args in
    rw c.from_residual.ensures (no_shape (keys_of a.keys) a.title a.tag a.apdu.now a.out.now (sym c.read_shape.ensures ∙ c.in_err-shape.was))

pub slice_bounds-open_into-count : goal.slice_bounds-open_into-count
slice_bounds-open_into-count c =
    omega (arith, (places_of _ _ (sym c.read_shape.ensures ∙ c.in_ok-shape.was)).0)

pub slice_bounds-open_into-start : goal.slice_bounds-open_into-start
slice_bounds-open_into-start c =
    let p = (places_of _ _ (sym c.read_shape.ensures ∙ c.in_ok-shape.was)).0 in
    search rules

pub slice_bounds-open_into-end-2 : goal.slice_bounds-open_into-end-2
slice_bounds-open_into-end-2 c =
    let p = (places_of _ _ (sym c.read_shape.ensures ∙ c.in_ok-shape.was)).0 in
    search rules

pub slice_bounds-open_into-count-2 : goal.slice_bounds-open_into-count-2
slice_bounds-open_into-count-2 c =
    omega (arith, (places_of _ _ (sym c.read_shape.ensures ∙ c.in_ok-shape.was)).0)

pub slice_bounds-open_into-start-2 : goal.slice_bounds-open_into-start-2
slice_bounds-open_into-start-2 c =
    let p = (places_of _ _ (sym c.read_shape.ensures ∙ c.in_ok-shape.was)).0 in
    search rules

pub overflow_sub-result : goal.overflow_sub-result
overflow_sub-result c =
    omega (arith, (places_of _ _ (sym c.read_shape.ensures ∙ c.in_ok-shape.was)).0)

pub returns : goal.returns
returns c =
    let a = c.args in
    let q = sym c.read_shape.ensures ∙ c.in_ok-shape.was in
    let l = a.out.now in
    let m = c.open_into.new.out in
    let h : longest_apdu ≤ length l = omega (arith, longest_apdu_lem) in
    right_tag (keys_of a.keys) a.title a.tag a.apdu.now q l m h
    (handed (keys_of a.keys) a.title a.tag a.apdu.now q l m h true c.nonce-n.ensures c.associated_data-data.ensures c.open_into.ensures c.if-not-open_into.false)

pub returns-then-not-open_into : goal.returns-then-not-open_into
returns-then-not-open_into c =
    let a = c.args in
    let q = sym c.read_shape.ensures ∙ c.in_ok-shape.was in
    let l = a.out.now in
    let m = c.open_into.new.out in
    let h : longest_apdu ≤ length l = omega (arith, longest_apdu_lem) in
    wrong_tag (keys_of a.keys) a.title a.tag a.apdu.now q l m h
    (handed (keys_of a.keys) a.title a.tag a.apdu.now q l m h false c.nonce-n.ensures c.associated_data-data.ensures c.open_into.ensures c.if-not-open_into.true)
