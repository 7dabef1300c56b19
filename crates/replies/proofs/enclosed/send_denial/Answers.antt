-- `replies::enclosed::send_denial` meets its contract: the answer is written at its place, and the envelope closed around it.
use mathlib.Core.Path.{refl, ap}
use Prim.Native.Nat.{ℕ, ◌+◌}
use borrow.Author.Rules.{rules}
use Rattle.model.specs.Objects.{action_answer, denied}
use Rattle.model.proofs.LimitFacts.{reply_room_lem, text_room_lem}
use Rattle.material.specs.Material.{keys_of}
use Rattle.replies.proofs.SendLaws.{enclosed, head_limits}
use Rattle.replies.proofs.enclosed.send_denial.Goals as goal

pub returns : goal.returns
returns c =
    let a = c.args in
    enclosed a.head (keys_of a.keys) a.title 0xCF a.counter 5 (action_answer a.invoke (denied a.code)) refl
    (ap (λ (k : ℕ). 11 + k) c.head_size-text.ensures) c.put_all.ensures c.close_and_send.ensures

pub overflow_add-text : goal.overflow_add-text
overflow_add-text c = let room = reply_room_lem in let text = text_room_lem in let size = head_limits 5 in search rules

pub put_all-requires : goal.put_all-requires
put_all-requires c = let room = reply_room_lem in let text = text_room_lem in let size = head_limits 5 in search rules

pub close_and_send-requires : goal.close_and_send-requires
close_and_send-requires c = let room = reply_room_lem in let text = text_room_lem in let size = head_limits 5 in search rules
