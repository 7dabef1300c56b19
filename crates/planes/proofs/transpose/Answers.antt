-- The three exchanges in their order.
use Rattle.planes.proofs.ExchangeLaws.{lanes, bytes}
use Rattle.planes.proofs.transpose.Goals as goal

pub returns : goal.returns
returns c =
    λ j h.
    let fours = c.by_fours.ensures in
    let twos = c.by_twos.ensures in
    let ones = c.by_ones.ensures in
    (lanes _ _ _ _ ones twos fours j h, bytes _ _ _ _ ones twos fours j h)
