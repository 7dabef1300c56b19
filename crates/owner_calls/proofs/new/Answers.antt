-- `owner_calls::new` meets its contract.
use mathlib.Core.Path.{sym, ap, ◌∙◌}
use mathlib.Core.Bool.{Bool}
use native.Mathlib.Omega.{arith}
use Rattle.image.specs.Sizes.{sizes}
use Rattle.owner_calls.specs.Refusals.{wrong_argument, fault_of}
use Rattle.owner_calls.proofs.CallLaws.{new_short, new_wrong, new_called, new_given}
use Rattle.owner_calls.proofs.new.Goals as goal

pub returns-then-state-ne-SIZE-clause-called : goal.returns-then-state-ne-SIZE-clause-called
returns-then-state-ne-SIZE-clause-called c = new_short (λ e. c.if-state-ne-SIZE.true (e ∙ sizes.image_size_lem))

pub returns-then-not-are_sized-clause-called : goal.returns-then-not-are_sized-clause-called
returns-then-not-are_sized-clause-called c =
    new_wrong (c.if-state-ne-SIZE.false ∙ sym sizes.image_size_lem)
    (sym (ap (λ (b : Bool). fault_of b wrong_argument) (sym c.are_sized.ensures ∙ c.if-not-are_sized.true))) (λ z. omega arith)

pub returns-clause-called : goal.returns-clause-called
returns-clause-called c =
    let a = c.args in
    let none = ap (λ (b : Bool). fault_of b wrong_argument) (sym c.are_sized.ensures ∙ c.if-not-are_sized.false) in
    let given = new_given a.device.now a.title.now a.v_title.now a.h_title.now none c.array_at.ensures c.array_at-2.ensures c.array_at-3.ensures c.array_at-4.ensures in
    new_called (c.if-state-ne-SIZE.false ∙ sym sizes.image_size_lem) none given c.new-meter.ensures c.write_image.ensures
