-- `answers::transfer::refuse` meets its contract.
use mathlib.Core.Path.{refl}
use native.Mathlib.Omega.{arith}
use Rattle.model.proofs.LimitFacts.{text_room_lem}
use Rattle.model.proofs.BlockLaws.{refused_fits}
use Rattle.picks.specs.Transfers.{transfer_of}
use Rattle.body.specs.View.{body_of}
use Rattle.answers.proofs.transfer.refuse.Goals as goal

pub put_refusal-next-requires : goal.put_refusal-next-requires
put_refusal-next-requires c = omega (arith, c.requires, text_room_lem)

pub returns : goal.returns
unfolding body_of transfer_of
returns c b =
    let a = c.args in
    let w = rw c.from.ensures at c.put_refusal-next.ensures in
    record { refusal = refl; wrote = w; short = omega (arith, w.next, refused_fits a.invoke a.number c.from.result); body = rw (c.leaves.ensures, c.no_transfer.ensures) refl }
