-- `objects::table::find_register` meets its contract.
use Rattle.std.proofs.Common.{◌≡◌, ◌∙◌, sym, ap, take, cond, Some, None, arith, rules}
use Rattle.std.specs.List.{find}
use Rattle.std.specs.Option.{option_map}
use Rattle.std.proofs.lemmas.Iterator.{YieldsList-from_slice}
use Rattle.std.proofs.lemmas.Iterator.Search.{find_from_yields_List}
use Rattle.model.specs.Names.{same_name, given, bearing, blank_register}
use Rattle.model.proofs.ListLaws.{none_found, some_found}
use Rattle.model.proofs.NameLaws.{eq_same_name, given_find}
use Rattle.store.specs.Lists.{registers_of}
use Rattle.store.proofs.HeldLaws.{held_take}
use Rattle.store.proofs.Lengths.{registers_long}
use Rattle.objects.proofs.TableLaws.{register_here}
use Rattle.objects.proofs.table.find_register.Goals as goal

pub returns-in_err-r : goal.returns-in_err-r
unfolding registers_of
returns-in_err-r c =
    let n = c.args.name in
    let s = c.args.registers in
    let full = registers_long s _ c.well_formed.1.0 in
    let held : take s.count s.items ≡ registers_of s = sym (held_take blank_register s.count s.items (omega (arith, full, c.requires))) in
    let f : option_map (λ r. r.now) c.find.result ≡ find (λ r. same_name r.name n) (take s.count s.items) =
    find_from_yields_List (λ r. same_name r.name n) _ _ _ c.find.ensures.ran (YieldsList-from_slice (take s.count s.items) cc) (λ x b q k. (search rules, search rules ∙ eq_same_name x.now.name n)) in
    let e : cond (given n (registers_of s)) (Some (bearing n (registers_of s))) None ≡ option_map (λ r. r.now) c.find.result =
    sym (f ∙ ap (find (λ r. same_name r.name n)) held ∙ given_find n (registers_of s)) in
    rw (c.from_residual.ensures, none_found (given n (registers_of s)) _ (e ∙ ap (option_map (λ r. r.now)) c.in_err-r.was))

pub returns : goal.returns
unfolding registers_of
returns c =
    let n = c.args.name in
    let s = c.args.registers in
    let full = registers_long s _ c.well_formed.1.0 in
    let held : take s.count s.items ≡ registers_of s = sym (held_take blank_register s.count s.items (omega (arith, full, c.requires))) in
    let f : option_map (λ r. r.now) c.find.result ≡ find (λ r. same_name r.name n) (take s.count s.items) =
    find_from_yields_List (λ r. same_name r.name n) _ _ _ c.find.ensures.ran (YieldsList-from_slice (take s.count s.items) cc) (λ x b q k. (search rules, search rules ∙ eq_same_name x.now.name n)) in
    let e : cond (given n (registers_of s)) (Some (bearing n (registers_of s))) None ≡ option_map (λ r. r.now) c.find.result =
    sym (f ∙ ap (find (λ r. same_name r.name n)) held ∙ given_find n (registers_of s)) in
    let found = some_found (given n (registers_of s)) (bearing n (registers_of s)) c.in_ok-r.r.now (e ∙ ap (option_map (λ r. r.now)) c.in_ok-r.was) in
    rw (c.known.ensures, c.attributes_if.ensures) (sym (register_here n (registers_of s) c.in_ok-r.r.now found.0 found.1))
