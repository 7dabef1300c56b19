-- `replies::enclosed::close_and_send` meets its contract: LLC, the envelope around the text where it stands, the frame.
use native.Mathlib.Omega.{arith}
use borrow.Author.Rules.{rules}
use Rattle.model.proofs.LimitFacts.{reply_room_lem, apdu_room_lem, text_room_lem}
use Rattle.envelope.proofs.CloseLaws.{envelope_fits, envelope_size}
use Rattle.material.specs.Material.{keys_of}
use Rattle.replies.proofs.SendLaws.{closed, closed_end}
use Rattle.replies.proofs.enclosed.close_and_send.Goals as goal

pub close_envelope-end-requires : goal.close_envelope-end-requires
close_envelope-end-requires c =
    let a = c.args in
    let fits = envelope_fits a.n (search rules) in
    (omega (arith, text_room_lem), omega (arith, reply_room_lem, apdu_room_lem))

pub put_data-requires : goal.put_data-requires
put_data-requires c =
    let a = c.args in
    let room = reply_room_lem in
    let apdu = apdu_room_lem in
    let fits = envelope_fits a.n (search rules) in
    let size = envelope_size a.n in
    let end = closed_end (keys_of a.keys) a.title a.tag a.counter a.n (omega arith) c.close_envelope-end.ensures in
    search rules

pub returns : goal.returns
returns c =
    let a = c.args in
    closed a.head (keys_of a.keys) a.title a.tag a.counter a.n c.put_llc-at.ensures c.close_envelope-end.ensures c.put_data.ensures

pub put_llc-at-requires : goal.put_llc-at-requires
put_llc-at-requires c = let room = reply_room_lem in let text = text_room_lem in search rules
