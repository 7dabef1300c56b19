-- `entering::aarq::open_request` meets its contract.
use Rattle.envelope.proofs.AdmitLaws.{opened_text}
use Rattle.ending.proofs.Envelopes.{envelope_fails, envelope_opens}
use Rattle.entering.proofs.aarq.open_request.Goals as goal

pub returns-in_default : goal.returns-in_default
returns-in_default c b =
    rw (envelope_fails 0x21 c.args.envelope.now c.lent_keys-keys.ensures c.title_of-title.ensures c.open_envelope.ensures c.in_default.is)
    (c.reject_aarq.ensures b)

pub slice_bounds-initiate-end : goal.slice_bounds-initiate-end
slice_bounds-initiate-end c =
    (opened_text c.open_envelope.ensures c.in-Some.is).1

pub returns : goal.returns
returns c b =
    rw (envelope_opens 0x21 c.args.envelope.now c.lent_keys-keys.ensures c.title_of-title.ensures c.open_envelope.ensures c.in-Some.is)
    (c.initiate.ensures c.lent_keys-keys.ensures b)
