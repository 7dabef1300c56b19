-- `line::is_within` meets its contract.
use Rattle.std.proofs.Common.{◌≡◌, ◌∙◌, ◌&&◌, sym, length, rules}
use borrow.Author.Tests.{eq-eqb, ne_eqb}
use Rattle.line.proofs.LineLaws.{within_three, byte_within}
use Rattle.line.proofs.is_within.Goals as goal
use Rattle.line.proofs.is_within.Goals.{then-a-o, else-a-o}

pub returns-then-a-o-2 : goal.returns-then-a-o-2
returns-then-a-o-2 c =
    let a = c.args.a in
    let o = c.args.o in
    let l : length a ≡ 3 = search rules in
    let m : length o ≡ 3 = search rules in
    let two : c.if-a-o.value ≡ (byte_within a o 0 && byte_within a o 1) =
    elim c.if-a-o.branch [
      | then-a-o w ↦ rw (eq-eqb _ _ w.if-a-o.true) w.value-is
      | else-a-o w ↦ rw (ne_eqb _ _ w.if-a-o.false) (w.value-is ∙ ne_eqb _ _ w.if-a-o.false)
    ] in
    rw (within_three a o l m, sym two ∙ c.if-a-o-2.true)

pub returns-else-a-o-2 : goal.returns-else-a-o-2
returns-else-a-o-2 c =
    let a = c.args.a in
    let o = c.args.o in
    let l : length a ≡ 3 = search rules in
    let m : length o ≡ 3 = search rules in
    let two : c.if-a-o.value ≡ (byte_within a o 0 && byte_within a o 1) =
    elim c.if-a-o.branch [
      | then-a-o w ↦ rw (eq-eqb _ _ w.if-a-o.true) w.value-is
      | else-a-o w ↦ rw (ne_eqb _ _ w.if-a-o.false) (w.value-is ∙ ne_eqb _ _ w.if-a-o.false)
    ] in
    rw (within_three a o l m, sym two ∙ c.if-a-o-2.false) c.if-a-o-2.false
