-- `replies::enclosed::send_proof` meets its contract: the answer and the proof in it are written at their place, and the
-- envelope closed around them.
use mathlib.Core.Path.{ap}
use Prim.Native.Nat.{ℕ, ◌+◌}
use borrow.Author.Rules.{rules}
use Rattle.model.proofs.LimitFacts.{reply_room_lem, text_room_lem}
use Rattle.wire_write.proofs.WroteLaws.{then}
use Rattle.protocol.specs.Rulings.{proved_text}
use Rattle.material.specs.Material.{keys_of}
use Rattle.protocol.proofs.Lengths.{length_proved}
use Rattle.replies.proofs.SendLaws.{enclosed, head_limits}
use Rattle.replies.proofs.enclosed.send_proof.Goals as goal

pub returns : goal.returns
unfolding proved_text
returns c =
    let a = c.args in
    enclosed a.head (keys_of a.keys) a.title 0xCF a.second 25 (proved_text (keys_of a.keys) a.title a.challenge a.invoke a.first)
    (length_proved (keys_of a.keys) a.title a.challenge a.invoke a.first)
    (ap (λ (k : ℕ). 11 + k) c.head_size-text.ensures) (then c.put_all-value.ensures c.put_proof.ensures) c.close_and_send.ensures

pub overflow_add-text : goal.overflow_add-text
overflow_add-text c = let room = reply_room_lem in let text = text_room_lem in let size = head_limits 25 in search rules

pub put_all-value-requires : goal.put_all-value-requires
put_all-value-requires c = let room = reply_room_lem in let text = text_room_lem in let size = head_limits 25 in search rules

pub put_proof-requires : goal.put_proof-requires
put_proof-requires c = let room = reply_room_lem in let text = text_room_lem in let size = head_limits 25 in search rules

pub close_and_send-requires : goal.close_and_send-requires
close_and_send-requires c = let room = reply_room_lem in let text = text_room_lem in let size = head_limits 25 in search rules
