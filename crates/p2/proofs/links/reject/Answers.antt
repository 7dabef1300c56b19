-- `p2::links::reject` meets its contract.
use Rattle.protocol.specs.Rulings.{frame, reject}
use Rattle.ending.proofs.Endings.{says_kept}
use Rattle.ending.specs.Inner.{meter_with}
use Rattle.p2.proofs.links.reject.Goals as goal

pub returns : goal.returns
returns c b =
    says_kept (frame c.args.test) (reject c.args.head c.args.test) (meter_with c.args.line b) c.number_of.ensures c.put_frmr.ensures
