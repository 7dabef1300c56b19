-- The client that ciphers is H: a `match` on an enum of one variant tells nothing of it. With a second one this law goes, and
-- each place that cites it has the equation of its arm.
use mathlib.Core.Path.{◌≡◌, refl}
use Rattle.model.specs.declared.CipherClient.{CipherClient}
use Rattle.model.specs.declared.CipherClient.TheVariants.{Han}

pub only_han : (c : CipherClient) → c ≡ Han
only_han Han = refl
