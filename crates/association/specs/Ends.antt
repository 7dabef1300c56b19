-- What is promised of bytes that no association holds any more: the view does not show them, and they are zeros.
use Rattle.std.specs.Prelude.{◌≡◌}
use Rattle.model.specs.declared.Client.{Client}
use Rattle.model.specs.declared.CipherClient.{CipherClient}
use Rattle.model.specs.declared.Client.TheVariants.{Ciphering}
use Rattle.model.specs.declared.Counters.{Counters}
use Rattle.model.specs.State.{associated, Line}
use Rattle.line.specs.declared.LineState.{LineState}
use Rattle.line.specs.View.{cipher_of, line_of}
use Rattle.line.specs.Left.{NoChallenges, Wiped}
use Rattle.protocol.specs.Clients.{associates, with_counters, held, agreed_in, key_in}

-- the client's association has ended, and the line is this one
pub record Ends (c : Client) (becomes : Line) (l : LineState) : Type 0 where
  pub view : line_of l ≡ becomes
  pub wiped : Wiped c l

-- the client is associated by what the line held of it, with these counters, and its challenges are left nowhere
pub record Proven (c : CipherClient) (n : Counters) (before : Line) (l : LineState) : Type 0 where
  pub view : line_of l ≡ with_counters c n (associates (Ciphering c) (associated (agreed_in (held c before)) (key_in (held c before))) before)
  pub wiped : NoChallenges (cipher_of c l)
