-- The tag of the empty text.
use Rattle.gcm.specs.Gcm.{gmac}
use Rattle.gcm.proofs.gmac.Goals as goal

pub returns : goal.returns
unfolding gmac
returns c = c.tag.ensures
