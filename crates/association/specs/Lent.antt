-- What is lent with a frame, as the code holds it.
use Rattle.std.specs.Prelude.{List, ℕ, replicate}
use Rattle.wire.specs.Reading.{filled}
use Rattle.protocol.specs.declared.Secrets.{Secrets}

-- the keys and the challenge as arrays; zeros where there are fewer bytes
abbrev pub secrets_in : (guk ak challenge : List ℕ) → Secrets
secrets_in g k c =
    record { guk = filled g 0 (replicate 16 0); ak = filled k 0 (replicate 16 0); challenge = filled c 0 (replicate 8 0) }
