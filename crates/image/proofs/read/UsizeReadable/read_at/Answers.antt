-- `image::read::UsizeReadable::read_at` meets its contract: its two halves.
use mathlib.Core.Path.{sym}
use native.Mathlib.Omega.{arith}
use Rattle.wire.proofs.NumberLaws.{number_add}
use Rattle.image.proofs.read.UsizeReadable.read_at.Goals as goal

pub returns : goal.returns
returns c = let a = c.args in record { is = rw (c.read_at-high.ensures.is, c.read_at-low.ensures.is) (sym (number_add a.s.now a.at 4 4 (omega arith))) }
