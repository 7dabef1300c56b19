-- `line::clients::counters_of` meets its contract.
use Rattle.model.proofs.ClientLaws.{only_han}
use Rattle.line.specs.View.{line_of}
use Rattle.line.proofs.clients.counters_of.Goals as goal

pub returns : goal.returns
unfolding line_of
returns c = rw (only_han c.args.client)
