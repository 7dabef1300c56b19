-- `diagnosis::state::find_in_body` meets its contract.
use mathlib.Core.Path.{sym, ◌∙◌}
use Rattle.store.proofs.StoreLaws.{few_registers_lem}
use Rattle.diagnosis.proofs.state.find_in_body.Goals as goal

pub columns_accepted-requires : goal.columns_accepted-requires
columns_accepted-requires c = few_registers_lem _ (sym c.registers_accepted.ensures ∙ c.if-not-registers_accepted.false)
