-- `objects::table::find_device` meets its contract.
use mathlib.Core.Path.{sym, ap, ◌∙◌}
use lib.ListN.{take, get_or}
use Rattle.model.specs.Names.{blank_name}
use Rattle.model.proofs.NameLaws.{eq_same_name}
use Rattle.objects.proofs.TableLaws.{device_is}
use Rattle.objects.proofs.table.find_device.Goals as goal

pub returns-then-eq : goal.returns-then-eq
returns-then-eq c =
    let own = c.own_names-own.result in
    let n = c.args.name in
    rw (c.known.ensures, sym (device_is own n (ap (take 7) c.own_names-own.ensures)) ∙ sym (eq_same_name (get_or own 4 blank_name) n) ∙ sym c.eq.ensures ∙ c.if-eq.true)

pub returns-else-eq : goal.returns-else-eq
returns-else-eq c =
    let own = c.own_names-own.result in
    let n = c.args.name in
    rw (sym (device_is own n (ap (take 7) c.own_names-own.ensures)) ∙ sym (eq_same_name (get_or own 4 blank_name) n) ∙ sym c.eq.ensures ∙ c.if-eq.false)
