-- `acse::clients::agreed` meets its contract: three bytes are three.
use borrow.Author.Rules.{rules}
use Rattle.acse.proofs.ServiceLaws.{common_three}
use Rattle.acse.proofs.clients.agreed.Goals as goal

pub returns : goal.returns
returns c = rw (← c.offered_services-offer.ensures) (common_three c.args.proposed c.offered_services-offer.result (search rules) (search rules))
