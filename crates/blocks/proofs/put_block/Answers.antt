-- `blocks::put_block` meets its contract.
use mathlib.Core.Path.{◌≡◌}
use Prim.Native.Nat.{ℕ, ◌+◌, ◌-◌, ◌*◌}
use native.Mathlib.Omega.{arith}
use Rattle.wire.proofs.PartLaws.{length_stretch}
use Rattle.wire.proofs.NumberLaws.{length_high}
use Rattle.wire.proofs.LengthLaws.{field_size}
use Rattle.wire_write.proofs.WroteLaws.{then}
use Rattle.model.specs.Objects.{block_answer}
use Rattle.model.proofs.LimitFacts.{text_room_lem}
use Rattle.blocks.proofs.StretchLaws.{begins_here, last_here, size_fits, stretch, stretch_size}
use Rattle.blocks.proofs.put_block.Goals as goal

whole : (k n : ℕ) → 732 * (k - 1) + n - 732 * (k - 1) ≡ n
whole k n = omega arith

pub overflow_sub-rest : goal.overflow_sub-rest
overflow_sub-rest c = begins_here c.args.text.now c.args.k c.requires.0 c.requires.2

pub put_head-a-requires : goal.put_head-a-requires
put_head-a-requires c = omega (arith, c.requires.3, text_room_lem)

pub put-b-requires : goal.put-b-requires
put-b-requires c =
    omega (arith, c.put_head-a.ensures.next, c.put_head-a.ensures.kept, length_high 4 c.args.k, c.requires.3, text_room_lem)

pub put_length-c-requires : goal.put_length-c-requires
put_length-c-requires c =
    let n = (size_fits c.args.text.now c.args.k c.requires.0 c.requires.2).0 in (
      omega (arith, c.min-size.ensures, n),
      omega (arith, c.put_head-a.ensures.next, c.put_head-a.ensures.kept, c.put-b.ensures.next, c.put-b.ensures.kept, length_high 4 c.args.k, (field_size c.min-size.result).1, c.requires.3, text_room_lem),
    )

pub slice_bounds-put_all-end : goal.slice_bounds-put_all-end
slice_bounds-put_all-end c = let n = size_fits c.args.text.now c.args.k c.requires.0 c.requires.2 in omega (arith, c.min-size.ensures, n.1)

pub put_all-next-requires : goal.put_all-next-requires
put_all-next-requires c =
    let n = size_fits c.args.text.now c.args.k c.requires.0 c.requires.2 in
    let part = length_stretch c.args.text.now (732 * (c.args.k - 1)) c.min-size.result (omega (arith, c.min-size.ensures, n.1)) in
    rw (whole c.args.k c.min-size.result)
    (omega (arith, part, c.put_head-a.ensures.next, c.put_head-a.ensures.kept, c.put-b.ensures.next, c.put-b.ensures.kept, c.put_length-c.ensures.next, c.put_length-c.ensures.kept, length_high 4 c.args.k, (field_size c.min-size.result).1, c.min-size.ensures, n.0, c.requires.3, text_room_lem))

pub returns : goal.returns
unfolding block_answer
returns c =
    let d = c.args.text.now in
    let k = c.args.k in
    let last = last_here d k c.requires.0 c.requires.2 in
    record {
      wrote =
          rw (← last, ← stretch_size d k c.requires.0 c.requires.2, ← stretch d k c.requires.0 c.requires.2, ← c.min-size.ensures)
          (then c.put_head-a.ensures (then c.put-b.ensures (then c.put_length-c.ensures (rw (whole k c.min-size.result) at c.put_all-next.ensures))));
      last = last;
    }
