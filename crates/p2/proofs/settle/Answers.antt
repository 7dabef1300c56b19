-- `p2::settle` meets its contract.
use Rattle.p2.proofs.settle.Goals as goal

pub returns : goal.returns
returns c =
    rw (c.changed.ensures, c.kept_transfer-kept.ensures, c.left_by-left.ensures)
