-- `replies::enclosed::send_accepted_ciphered` meets its contract: the AARE behind LLC up to its envelope, the initiate response
-- at its place in that, the envelope closed around it, the frame.
use Rattle.model.proofs.LimitFacts.{text_room_lem}
use mathlib.Core.Path.{ap}
use Prim.Native.Nat.{ℕ, ◌+◌}
use native.Mathlib.Omega.{arith}
use borrow.Author.Rules.{rules}
use Rattle.model.proofs.LimitFacts.{reply_room_lem}
use Rattle.wire_write.proofs.WroteLaws.{then}
use Rattle.acse.specs.Initiate.{initiate_response}
use Rattle.envelope.proofs.CloseLaws.{envelope_size}
use Rattle.hdlc_write.proofs.ReplyLaws.{apdu_framed}
use Rattle.material.specs.Material.{keys_of}
use Rattle.replies.proofs.SendLaws.{closed_around, closed_end, head_limits}
use Rattle.replies.proofs.enclosed.send_accepted_ciphered.Goals as goal

pub close_envelope-end-requires : goal.close_envelope-end-requires
close_envelope-end-requires c =
    let room = reply_room_lem in
    let head = head_limits 14 in
    let size = envelope_size 14 in
    search rules

pub put_data-requires : goal.put_data-requires
put_data-requires c =
    let room = reply_room_lem in
    let head = head_limits 14 in
    let size = envelope_size 14 in
    let end = closed_end (keys_of c.args.keys) c.args.title 0x28 c.args.counter 14 (omega (arith, c.put_initiate_response.ensures, c.put_accepted_head-start.ensures, c.put_llc-at.ensures)) c.close_envelope-end.ensures in
    search rules

pub returns : goal.returns
returns c =
    let t = initiate_response c.args.agreed in
    apdu_framed c.args.head c.put_llc-at.ensures
    (then c.put_accepted_head-start.ensures.wrote
    (closed_around (keys_of c.args.keys) c.args.title 0x28 c.args.counter 14 t c.put_initiate_response.ensures.sized
    (ap (λ (k : ℕ). c.put_accepted_head-start.result + k) c.head_size.ensures) c.put_initiate_response.ensures.wrote
    c.close_envelope-end.ensures))
    c.put_data.ensures

pub put_llc-at-requires : goal.put_llc-at-requires
put_llc-at-requires c = let room = reply_room_lem in let text = text_room_lem in let size = head_limits 14 in search rules

pub put_accepted_head-start-requires : goal.put_accepted_head-start-requires
put_accepted_head-start-requires c = let room = reply_room_lem in let text = text_room_lem in let size = head_limits 14 in search rules

pub overflow_add-text : goal.overflow_add-text
overflow_add-text c = let room = reply_room_lem in let text = text_room_lem in let size = head_limits 14 in search rules

pub put_initiate_response-requires : goal.put_initiate_response-requires
put_initiate_response-requires c = let room = reply_room_lem in let text = text_room_lem in let size = head_limits 14 in search rules
