-- `names::none_among` meets its contract.
use Rattle.std.proofs.Common.{◌≡◌, not, rules, tests}
use Rattle.std.specs.List.{list_all}
use Rattle.std.proofs.lemmas.Iterator.{YieldsList-from_slice}
use Rattle.std.proofs.lemmas.Iterator.Search.{all_from_yields_List}
use Rattle.model.specs.Names.{among}
use Rattle.model.proofs.ListLaws.{every_all}
use Rattle.names.proofs.none_among.Goals as goal

pub returns : goal.returns
returns c =
    let a = c.args in
    let e : c.all.result ≡ list_all (λ m. not (among m a.names.now)) a.these.now =
    all_from_yields_List (λ m. not (among m a.names.now)) _ _ _ c.all.ensures.ran (YieldsList-from_slice a.these.now cc) (λ x b q k. search (rules, tests)) in
    rw (e, every_all (λ m. not (among m a.names.now)) 0 a.these.now)
