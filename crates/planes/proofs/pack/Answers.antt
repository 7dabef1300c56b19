-- Eight bytes are found where they were put.
use borrow.Author.Rules.{rules}
use mathlib.Core.Path.{◌≡◌}
use Prim.Native.Nat.{ℕ, ◌<◌}
use lib.ListN.{length, get_or}
use Rattle.std.proofs.lemmas.Nat.{le_bytes_8}
use Rattle.planes.proofs.pack.Goals as goal

pub returns : goal.returns
returns c =
    let b = c.args.b in
    let n : length b ≡ 8 = search rules in
    let f : (i : ℕ) → get_or b i 0 < 256 = search rules in le_bytes_8 b _ n f c.from_le_bytes.ensures
