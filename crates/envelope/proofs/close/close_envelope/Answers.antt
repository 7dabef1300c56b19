-- `envelope::close::close_envelope` meets its contract: head, text sealed as a part of the buffer, GCM tag.
use mathlib.Core.Path.{refl}
use native.Mathlib.Omega.{arith}
use borrow.Author.Rules.{rules}
use Rattle.material.specs.Material.{keys_of}
use Rattle.envelope.proofs.CloseLaws.{envelope_size, length_head, tag_room, closes}
use Rattle.envelope.proofs.close.close_envelope.Goals as goal

pub put_head-start-requires : goal.put_head-start-requires
put_head-start-requires c = let a = c.args in (search rules, omega (arith, envelope_size a.n))

pub slice_bounds-seal-end-2 : goal.slice_bounds-seal-end-2
slice_bounds-seal-end-2 c =
    let a = c.args in
    let e = envelope_size a.n in
    let f = length_head a.tag a.counter a.n in
    search rules

pub put_array-requires : goal.put_array-requires
put_array-requires c =
    let a = c.args in
    (omega arith, tag_room (keys_of a.keys) a.title a.tag a.counter a.n a.at a.out.now c.requires.1 c.put_head-start.ensures refl c.seal-t.ensures)

pub returns : goal.returns
returns c =
    let a = c.args in
    closes (keys_of a.keys) a.title a.tag a.counter a.n a.at a.out.now c.requires.1 c.put_head-start.ensures refl c.seal-t.ensures
    c.nonce-v.ensures c.associated_data-data.ensures c.put_array.ensures.wrote
