-- The tag, compared.
use Rattle.gcm.specs.Gcm.{authentic}
use Rattle.gcm.proofs.ReadyKey.matches.Goals as goal

pub returns : goal.returns
unfolding authentic
returns c = simp (c.is_same.ensures, c.tag-r.ensures)
