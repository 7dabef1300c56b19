-- `material::ready_keys` meets its contract: GCM makes the key ready.
use mathlib.Core.Path.{ap}
use Rattle.gcm.specs.Gcm.{Key}
use Rattle.material.proofs.ready_keys.Goals as goal

pub returns : goal.returns
returns c = ap (λ (k : Key). record { key = k; ak = c.args.ak }) c.ready-key.ensures
