-- `replies::enclosed::send_enclosed` meets its contract: the text is moved to its place, and the envelope closed around it.
use mathlib.Core.Path.{ap}
use Prim.Native.Nat.{ℕ, ◌+◌}
use native.Mathlib.Omega.{arith}
use lib.ListN.{take, drop}
use borrow.Author.Rules.{rules}
use Rattle.model.proofs.LimitFacts.{reply_room_lem, text_room_lem}
use Rattle.wire.proofs.PartLaws.{length_stretch}
use Rattle.material.specs.Material.{keys_of}
use Rattle.replies.proofs.SendLaws.{enclosed, head_limits}
use Rattle.replies.proofs.enclosed.send_enclosed.Goals as goal

pub move_down-requires : goal.move_down-requires
move_down-requires c =
    let a = c.args in
    (omega (arith, c.head_size-text.ensures, head_limits a.n), omega (arith, reply_room_lem, text_room_lem))

pub returns : goal.returns
returns c =
    let a = c.args in
    let t = take a.n (drop 20 a.out.now) in
    enclosed a.head (keys_of a.keys) a.title a.tag a.counter a.n t (length_stretch a.out.now 20 a.n (omega (arith, reply_room_lem, text_room_lem)))
    (ap (λ (k : ℕ). 11 + k) c.head_size-text.ensures) c.move_down.ensures c.close_and_send.ensures

pub head_size-text-requires : goal.head_size-text-requires
head_size-text-requires c = let room = reply_room_lem in let text = text_room_lem in let size = head_limits c.args.n in search rules

pub overflow_add-text : goal.overflow_add-text
overflow_add-text c = let room = reply_room_lem in let text = text_room_lem in let size = head_limits c.args.n in search rules
