-- `names::names_of` meets its contract.
use Rattle.std.proofs.Common.{◌≡◌, ◌∙◌, sym, map, length, rules, arith}
use Rattle.std.proofs.lemmas.List.{same_lists, get_or-map, length-map}
use Rattle.model.specs.Names.{name_of, blank_register}
use Rattle.names.proofs.names_of.Goals as goal

pub returns : goal.returns
returns c =
    let rs = c.args.registers in
    let n : length rs ≡ 16 = search rules in
    let m = c.map.ensures.items in
    same_lists c.map.result (map name_of rs) (m.long ∙ sym (length-map rs name_of ∙ n)) (λ k d h.
    let called = m.at k blank_register d (omega (arith, m.long)) in
    search rules ∙ sym (get_or-map name_of rs k blank_register d (omega (arith, m.long))))
