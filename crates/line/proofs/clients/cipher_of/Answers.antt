-- `line::clients::cipher_of` meets its contract.
use Rattle.model.proofs.ClientLaws.{only_han}
use Rattle.line.proofs.clients.cipher_of.Goals as goal

pub returns : goal.returns
returns c = rw (only_han c.args.client)
