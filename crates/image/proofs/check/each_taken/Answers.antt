-- `image::check::each_taken` meets its contract: each in turn is tested.
use mathlib.Core.Path.{◌≡◌, refl}
use mathlib.Core.Bool.{true, false}
use lib.ListN.{drop}
use Rattle.std.proofs.Common.{◌+◌, ◌*◌, rules}
use Rattle.std.proofs.lemmas.Iterator.{YieldsList-from_range, cases_from_all}
use Rattle.image.proofs.LoopLaws.{taken_by}
use Rattle.image.proofs.check.each_taken.Goals as goal

pub returns : goal.returns
returns g c =
    let a = c.args in
    let t = g.T.Part in
    taken_by t.part a.count a.at a.s.now g.met.T.Part.sized
    (cases_from_all _ _ c.all.result (λ i. t.part.taken (drop (a.at + i * t.SIZE) a.s.now) ≡ true) (λ i. t.part.taken (drop (a.at + i * t.SIZE) a.s.now) ≡ false) c.all.ensures.ran (YieldsList-from_range 0 a.count a.count refl (search rules)) (λ x q d. search rules) (λ x q d. search rules))
