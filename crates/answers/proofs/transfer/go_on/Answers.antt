-- `answers::transfer::go_on` meets its contract.
use mathlib.Core.Path.{◌≡◌, refl, ap, ◌∙◌}
use Prim.Native.Nat.{◌+◌, ◌-◌}
use native.Mathlib.Omega.{arith}
use borrow.Author.Tests.{eq-eqb, ne_eqb}
use Rattle.model.specs.State.{profile}
use Rattle.model.specs.Objects.{rows_data, is_last}
use Rattle.model.proofs.BlockLaws.{answer_fits}
use Rattle.store.specs.Lists.{entries_of}
use Rattle.picks.specs.Marks.{marked}
use Rattle.picks.specs.Transfers.{picking_of}
use Rattle.store.proofs.Lengths.{rows_long}
use Rattle.picks.proofs.Lengths.{clocks_long}
use Rattle.body.specs.View.{body_of}
use Rattle.body.proofs.BodyLaws.{sound_passes, sound_even, sound_fits}
use Rattle.answers.proofs.TransferLaws.{rows_most, long_data_lem, more_comes_lem, few_blocks}
use Rattle.answers.proofs.transfer.go_on.Goals as goal

pub returns-then-number-k : goal.returns-then-number-k
returns-then-number-k c =
    rw (ne_eqb _ _ c.if-number-k.true) (c.refuse.ensures _)

pub rows_of-which-requires : goal.rows_of-which-requires
rows_of-which-requires c = (sound_fits c.args.body c.requires.0).rows

pub overflow_add-next : goal.overflow_add-next
unfolding body_of
overflow_add-next c =
    let a = c.args in
    let even = sound_even a.body c.requires.0 in
    let is = c.well_formed.0.1.1.1.1.1.1.1.1.0 in
    let goes = rw c.requires.1 at (sound_passes a.body c.requires.0).transfer in
    let most = rows_most a.body.rows _ even (rows_long a.body.rows _ is) (clocks_long a.body.rows _ is) c.rows_of-which.result in
    omega (arith, few_blocks (body_of a.body).store a.body.rows _ a.k c.rows_of-which.result refl goes c.rows_of-which.ensures most)

pub put_rows_block-b-requires : goal.put_rows_block-b-requires
unfolding body_of
put_rows_block-b-requires c =
    let a = c.args in
    let even = sound_even a.body c.requires.0 in
    let is = c.well_formed.0.1.1.1.1.1.1.1.1.0 in
    let goes = rw c.requires.1 at (sound_passes a.body c.requires.0).transfer in
    let most = rows_most a.body.rows _ even (rows_long a.body.rows _ is) (clocks_long a.body.rows _ is) c.rows_of-which.result in
    let few = few_blocks (body_of a.body).store a.body.rows _ a.k c.rows_of-which.result refl goes c.rows_of-which.ensures most in
    let more = more_comes_lem (body_of a.body).store a.body.rows _ a.k c.rows_of-which.result refl goes c.rows_of-which.ensures in
    let k : a.k + 1 - 1 ≡ a.k = omega arith in
    ((_, even), omega arith, omega (arith, few), rw k (omega (arith, more)), c.requires.2)

pub returns : goal.returns
unfolding body_of
returns c =
    let a = c.args in
    let b = c.put_rows_block-b.ensures in
    let goes = rw c.requires.1 at (sound_passes a.body c.requires.0).transfer in
    let long = long_data_lem (body_of a.body).store a.body.rows _ a.k c.rows_of-which.result refl goes c.rows_of-which.ensures in
    let x = profile (picking_of a.picking) in
    let d = rows_data (marked c.rows_of-which.result (entries_of a.body.rows)) in
    let last = b.last ∙ ap (is_last (a.k + 1)) long in
    rw (eq-eqb _ _ c.if-number-k.false)
    (record {
      refusal = refl;
      wrote = rw long at b.wrote;
      short = omega (arith, b.wrote.next, answer_fits a.invoke (a.k + 1) d);
      body = rw (c.leaves.ensures, c.after_block.ensures, last) refl;
    })
