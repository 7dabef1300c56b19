-- `objects::table::find_own` meets its contract: by the place of the name among the own names.
use Rattle.std.proofs.Common.{◌≡◌, ◌∙◌, sym, ap, List, cond, Some, None, arith}
use Rattle.model.specs.declared.Name.{Name}
use Rattle.model.specs.Names.{seat, among}
use Rattle.model.specs.Objects.{own_names}
use Rattle.model.proofs.ListLaws.{some_found}
use Rattle.objects.proofs.TableLaws.{own_not, none_of_six}
use Rattle.objects.proofs.table.find_own.Goals as goal

pub returns-in_default-i : goal.returns-in_default-i
returns-in_default-i c =
    let n = c.args.name in
    let i = c.in-Some.i in
    let place : c.seat_of.result ≡ cond (among n own_names) (Some (seat n own_names)) None =
    c.seat_of.ensures ∙ ap (λ (l : List Name). cond (among n l) (Some (seat n l)) None) c.own_names.ensures in
    let at = some_found (among n own_names) (seat n own_names) i (sym place ∙ c.in-Some.is) in
    rw (own_not n _ i (sym at.1) (none_of_six i (omega arith) (omega arith) (omega arith) (omega arith) (omega arith) (omega arith))) c.find_register-in_default-i.ensures
