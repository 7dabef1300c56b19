-- `p2::links::refuse` meets its contract.
use mathlib.Core.Path.{sym}
use Rattle.protocol.specs.Rulings.{dm}
use Rattle.ending.proofs.Endings.{says_kept}
use Rattle.ending.specs.Inner.{meter_with}
use Rattle.p2.proofs.links.refuse.Goals as goal

pub returns : goal.returns
returns c t e b =
    says_kept t (dm c.args.head) (meter_with c.args.line b) (sym e) c.put_dm.ensures
