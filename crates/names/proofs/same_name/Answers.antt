-- `names::same_name` meets its contract.
use mathlib.Core.Path.{◌∙◌}
use Rattle.model.proofs.NameLaws.{eq_same_name}
use Rattle.names.proofs.same_name.Goals as goal

pub returns : goal.returns
returns c = c.eq.ensures ∙ eq_same_name c.args.a c.args.b
