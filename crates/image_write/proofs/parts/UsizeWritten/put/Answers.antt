-- `image_write::parts::UsizeWritten::put` meets its contract: its two halves.
use native.Mathlib.Omega.{arith}
use Rattle.image_write.proofs.PutLaws.{put_number, halves}
use Rattle.image_write.proofs.parts.UsizeWritten.put.Goals as goal

pub returns : goal.returns
returns c =
    let n = c.args.self.now in
    put_number 8 n (omega arith) (halves n c.put_number-a.ensures c.put_number.ensures)
