-- `p2::converse::converse` meets its contract.
use mathlib.Core.Path.{refl, sym, ◌∙◌}
use Rattle.protocol.specs.Rulings.{unknown_tag, tag_not_permitted, bit_not_agreed}
use Rattle.protocol.specs.Decide.{conversed}
use Rattle.p2.proofs.converse.converse.Goals as goal

pub returns-then-is_unknown : goal.returns-then-is_unknown
unfolding conversed
returns-then-is_unknown c =
    rw (c.alone.ensures, sym c.tag_in-tag.ensures, sym c.is_unknown.ensures ∙ c.if-is_unknown.true)
    (c.except.ensures c.args.meter.line unknown_tag refl (λ d. refl) c.args.meter.body)

pub returns-then-not-is_permitted : goal.returns-then-not-is_permitted
unfolding conversed
returns-then-not-is_permitted c =
    rw (c.alone-then-not-is_permitted.ensures, sym c.tag_in-tag.ensures, sym c.is_unknown.ensures ∙ c.if-is_unknown.false, sym c.is_permitted.ensures ∙ c.if-not-is_permitted.true)
    (c.except-then-not-is_permitted.ensures c.args.meter.line tag_not_permitted refl (λ d. refl) c.args.meter.body)

pub returns-then-not-is_bit_agreed : goal.returns-then-not-is_bit_agreed
unfolding conversed
returns-then-not-is_bit_agreed c =
    rw (c.alone-then-not-is_bit_agreed.ensures, sym c.tag_in-tag.ensures, sym c.is_unknown.ensures ∙ c.if-is_unknown.false, sym c.is_permitted.ensures ∙ c.if-not-is_permitted.false, sym c.is_bit_agreed.ensures ∙ c.if-not-is_bit_agreed.true)
    (c.except-then-not-is_bit_agreed.ensures c.args.meter.line bit_not_agreed refl (λ d. refl) c.args.meter.body)

pub returns : goal.returns
unfolding conversed
returns c =
    rw (sym c.tag_in-tag.ensures, sym c.is_unknown.ensures ∙ c.if-is_unknown.false, sym c.is_permitted.ensures ∙ c.if-not-is_permitted.false, sym c.is_bit_agreed.ensures ∙ c.if-not-is_bit_agreed.false)
    c.by_tag.ensures
