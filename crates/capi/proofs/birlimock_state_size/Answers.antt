-- `capi::birlimock_state_size` meets its contract.
use mathlib.Core.Path.{sym}
use Rattle.image.specs.Sizes.{sizes}
use Rattle.capi.proofs.birlimock_state_size.Goals as goal

pub returns : goal.returns
returns c = sym sizes.image_size_lem
