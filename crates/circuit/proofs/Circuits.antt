-- Circuits and moves apart from their tests: the edits of must-fail/ change them along with the code, and a test of all bytes or bits is what each edit fails.
use lib.Bits.{bit_xor}
use Prim.Native.Nat.{ℕ}
use Rattle.planes.specs.declared.Planes.{Planes}
use Rattle.planes.proofs.MoveLaws.{Move, up, down, keep, join}
use Rattle.circuit.specs.declared.halves.Half.{Half}

-- `affine_out`, by a 1 in each lane of the planes, or a single 1 for the bits of one
unfoldable pub affine_circuit : ℕ → Planes → Planes
affine_circuit one q =
    let s = bit_xor q.p2 q.p4 in
    let t = bit_xor q.p0 q.p5 in
    let u = bit_xor q.p1 q.p7 in
    let v = bit_xor q.p6 s in
    record {
      p0 = bit_xor (bit_xor t q.p7) one;
      p1 = bit_xor (bit_xor q.p4 t) one;
      p2 = bit_xor (bit_xor q.p3 s) u;
      p3 = bit_xor (bit_xor q.p5 q.p7) v;
      p4 = v;
      p5 = bit_xor u one;
      p6 = bit_xor (bit_xor q.p2 q.p6) one;
      p7 = s;
    }

-- `scaled_square`
unfoldable pub scaled_square_circuit : Planes → Half
scaled_square_circuit q =
    let s = bit_xor q.p0 q.p4 in
    let t = bit_xor q.p1 q.p5 in
    let u = bit_xor q.p2 q.p6 in
    let v = bit_xor q.p3 q.p7 in
    record {
      a = bit_xor s t;
      b = t;
      c = bit_xor t v;
      d = bit_xor s u;
    }

-- `shifted`: rows 1 and 3 by one, then rows 2 and 3 by two
unfoldable pub by_one : Move → Move
by_one x = join (join (keep 0x0fff00000fff0000 (down 4 x)) (keep 0xf0000000f0000000 (up 12 x))) (keep 0x0000ffff0000ffff x)

unfoldable pub by_two : Move → Move
by_two x = join (join (keep 0x00ff00ff00000000 (down 8 x)) (keep 0xff00ff0000000000 (up 8 x))) (keep 0xffffffff x)
