-- `p2::converse::by_tag` meets its contract.
use mathlib.Core.Path.{refl}
use Rattle.protocol.specs.Rulings.{unknown_tag}
use Rattle.p2.proofs.converse.by_tag.Goals as goal

pub returns-in-Aarq : goal.returns-in-Aarq
returns-in-Aarq c =
    rw (c.alone.ensures, c.in-Aarq.is) (c.associate.ensures c.args.meter.body)

pub returns-in-Rlrq : goal.returns-in-Rlrq
returns-in-Rlrq c =
    rw (c.alone-in-Rlrq.ensures, c.in-Rlrq.is) (c.release.ensures c.args.meter.body)

pub returns-in-PlainRequest : goal.returns-in-PlainRequest
returns-in-PlainRequest c =
    rw c.in-PlainRequest.is (c.ask_plain.ensures c.args.secrets)

pub returns-in-GlobalAction : goal.returns-in-GlobalAction
returns-in-GlobalAction c =
    rw (c.alone-in-GlobalAction.ensures, c.in-GlobalAction.is) (c.hear_ciphered.ensures c.args.meter.body)

pub returns-in-DedicatedRequest : goal.returns-in-DedicatedRequest
returns-in-DedicatedRequest c =
    rw c.in-DedicatedRequest.is c.ask_ciphered.ensures

pub returns-in-Unknown : goal.returns-in-Unknown
returns-in-Unknown c =
    rw (c.alone-in-Unknown.ensures, c.in-Unknown.is) (c.except.ensures c.args.meter.line unknown_tag refl (λ d. refl) c.args.meter.body)
