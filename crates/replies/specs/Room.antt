-- What every writer of a reply asks of the buffer that is lent to it.
use Rattle.std.specs.Prelude.{List, ℕ, ◌≤◌, length}
use Rattle.model.specs.Limits.{longest_sent, reply_room}

-- it has "reply room" for the longest frame that the meter sends
abbrev pub HasRoom : List ℕ → Type 0
HasRoom out = reply_room longest_sent ≤ length out
