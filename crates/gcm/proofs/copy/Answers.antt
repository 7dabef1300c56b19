-- `gcm::copy` meets its contract. The invariant: the first i bytes are copied.
use Rattle.std.proofs.Common.{◌≡◌, ℕ, ◌+◌, ◌<◌, List, ◌++◌, length, drop, get_or, ap, ◌∙◌, arith}
use lib.ListN.{set}
use native.Mathlib.Nat.{zero-add}
use native.Mathlib.Numerals.{add-one}
use lib.Seq.{paste-suc, take-length}
use Rattle.gcm.proofs.copy.Invariants.{begun}
use Rattle.gcm.proofs.copy.Goals as goal

one_more : (s l : List ℕ) (i : ℕ) → i < length s → i < length l → set (begun s l i) i (get_or s i 0) ≡ begun s l (i + 1)
one_more s l i h k = rw add-one (simp zero-add at (paste-suc l 0 s i 0 (rw zero-add k) h))

pub loop-i-preserved : goal.loop-i-preserved
loop-i-preserved c =
    let a = c.args in
    let i = c.loop-i.i in
    let h : i < length a.c.now = omega arith in
    let l : i < length a.out.now = omega (arith, c.requires) in
    rw c.loop-i.invariant (one_more a.c.now a.out.now i h l)

pub returns : goal.returns
returns c =
    let a = c.args in
    let e : c.loop-i.i ≡ length a.c.now = omega arith in
    rw e at c.loop-i.invariant ∙ ap (λ (x : List ℕ). x ++ drop (length a.c.now) a.out.now) (take-length a.c.now)
