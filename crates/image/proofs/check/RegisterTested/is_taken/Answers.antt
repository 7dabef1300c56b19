-- `image::check::RegisterTested::is_taken` meets its contract: by its flag.
use mathlib.Core.Path.{sym, ◌∙◌}
use Rattle.image.proofs.TakenLaws.{register_from}
use Rattle.image.proofs.check.RegisterTested.is_taken.Goals as goal

pub returns : goal.returns
returns c = let a = c.args in c.is_taken.ensures ∙ sym (register_from a.s.now a.at)
