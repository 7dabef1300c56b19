-- `cosem::shapes::entries_in` meets its contract: a value of the shape has room for its four numbers.
use mathlib.Core.Path.{sym, ◌∙◌}
use native.Mathlib.Omega.{arith}
use Rattle.wire.proofs.ReadingLaws.{number_here}
use Rattle.cosem.specs.Entries.{entries_in}
use Rattle.cosem.proofs.ShapeLaws.{descriptor_size}
use Rattle.cosem.proofs.shapes.entries_in.Goals as goal

pub returns : goal.returns
unfolding entries_in
returns c =
    let v = c.args.v.now in
    let t = sym c.is_entry_descriptor.ensures ∙ c.if-not-is_entry_descriptor.false in
    let n = descriptor_size v t in
    rw (
      t,
      c.found.ensures,
      number_here v 3 4 (omega arith),
      c.found-2.ensures,
      number_here v 8 4 (omega arith),
      c.found-3.ensures,
      number_here v 13 2 (omega arith),
      c.found-4.ensures,
      number_here v 16 2 (omega arith),
    )
