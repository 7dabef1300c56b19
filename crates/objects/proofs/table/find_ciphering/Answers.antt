-- `objects::table::find_ciphering` meets its contract.
use Rattle.model.proofs.ClientLaws.{only_han}
use Rattle.objects.proofs.table.find_ciphering.Goals as goal

pub returns : goal.returns
returns c = rw (only_han c.args.client) c.find_own.ensures
