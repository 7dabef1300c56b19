-- `wire::read::number_at` meets its contract. The invariant: the number is that of the bytes gone through.
use Rattle.std.proofs.Common.{◌≡◌, ◌-◌, length}
use mathlib.Core.Path.{refl, sym, ap, ◌∙◌}
use Prim.Native.Nat.{ℕ}
use native.Mathlib.Omega.{arith}
use lib.ListN.{take}
use lib.Seq.{take-length}
use Rattle.wire.specs.Numbers.{number_high}
use Rattle.wire.specs.Reading.{part}
use Rattle.wire.proofs.NumberLaws.{number_next, number_room}
use Rattle.wire.proofs.PartLaws.{part_of, length_stretch}
use Rattle.wire.proofs.ReadingLaws.{number_here, part_bytes, skip_read}
use Rattle.wire.proofs.read.number_at.Goals as goal

pub loop-b-init : goal.loop-b-init
loop-b-init g c =
    let a = c.args in
    let r = skip_read a.s.now a.at g.row.W (sym c.skip_at.ensures ∙ c.in_ok-next.was) in
    let p = part_of a.at g.row.W a.s.now in
    (refl, rw (r.0, p, length_stretch a.s.now a.at g.row.W (omega (arith, r.0, r.1))) c.requires)

pub overflow_mul-number : goal.overflow_mul-number
overflow_mul-number g c =
    let a = c.args in
    omega (arith, c.loop-b.invariant.0, number_room (part a.at c.in_ok-next.next a.s.now) c.loop-b.b-index (part_bytes a.s.now a.at (c.in_ok-next.next - a.at) c.type_inv.s) c.loop-b-test.true c.loop-b.invariant.1)

pub overflow_add-number : goal.overflow_add-number
overflow_add-number g c =
    let a = c.args in
    let b = part_bytes a.s.now a.at (c.in_ok-next.next - a.at) c.type_inv.s in
    omega (arith, c.loop-b.invariant.0, b c.loop-b.b-index, number_room (part a.at c.in_ok-next.next a.s.now) c.loop-b.b-index b c.loop-b-test.true c.loop-b.invariant.1)

pub loop-b-preserved : goal.loop-b-preserved
loop-b-preserved g c =
    let a = c.args in
    (rw c.loop-b.invariant.0 (sym (number_next (part a.at c.in_ok-next.next a.s.now) c.loop-b.b-index c.loop-b-test.true)), c.loop-b.invariant.1)

pub returns : goal.returns
returns g c =
    let a = c.args in
    let r = skip_read a.s.now a.at g.row.W (sym c.skip_at.ensures ∙ c.in_ok-next.was) in
    let p = part_of a.at g.row.W a.s.now in
    let t = part a.at c.in_ok-next.next a.s.now in
    let i : c.loop-b.b-index ≡ length t = omega (arith, c.loop-b-test.false, c.loop-b.auto.b-index-end) in
    let n = c.loop-b.invariant.0 ∙ ap (λ (k : ℕ). number_high (take k t)) i ∙ ap number_high (take-length t) in
    rw (n, r.0, p) (sym (number_here a.s.now a.at g.row.W (omega (arith, r.0, r.1))))
