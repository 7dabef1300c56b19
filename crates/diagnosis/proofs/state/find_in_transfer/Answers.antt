-- `diagnosis::state::find_in_transfer` meets its contract.
use Rattle.diagnosis.proofs.StateLaws.{body_even}
use Rattle.diagnosis.proofs.state.find_in_transfer.Goals as goal

pub rows_allow-requires : goal.rows_allow-requires
rows_allow-requires c = body_even c.args.body c.requires
