-- `names::seat_of` meets its contract.
use Rattle.std.proofs.Common.{◌≡◌, rules, ◌∙◌}
use Rattle.std.specs.List.{position}
use Rattle.std.proofs.lemmas.Iterator.{YieldsList-from_slice}
use Rattle.std.proofs.lemmas.Iterator.Search.{position_from_yields_List}
use Rattle.model.specs.Names.{same_name}
use Rattle.model.proofs.NameLaws.{eq_same_name, seat_position}
use Rattle.names.proofs.seat_of.Goals as goal

pub returns : goal.returns
returns c =
    let a = c.args in
    let e : c.position.result ≡ position (λ m. same_name m a.name) a.names.now =
    position_from_yields_List (λ m. same_name m a.name) _ _ _ c.position.ensures.ran (YieldsList-from_slice a.names.now cc) (λ x b q k. (search rules, search rules ∙ eq_same_name x.now a.name)) in
    rw (e, seat_position a.name a.names.now)
