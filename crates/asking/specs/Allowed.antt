-- What an association lets its client ask of the body.
use Rattle.std.specs.Prelude.{Bool, true}
use Rattle.model.specs.declared.Client.{Client}
use Rattle.model.specs.State.{Line}
use Rattle.cosem.specs.declared.Reading.{Reading}
use Rattle.cosem.specs.declared.Reading.TheVariants.{Asks, GoesOn}
use Rattle.protocol.specs.Clients.{blocks_in}

-- each request; and the next block of a long answer where requests for a block were agreed
abbrev pub may_ask : Line → Client → Reading → Bool
may_ask l c (Asks q) = true
may_ask l c (GoesOn invoke number) = blocks_in c l
