-- `image::lists::firsts_in` meets its contract: as many as find room.
use Rattle.image.proofs.ListLaws.{begins_by}
use Rattle.image.proofs.lists.firsts_in.Goals as goal

pub returns : goal.returns
returns g c = begins_by g.T.Part.part g.met.T.Part.sized _ c.SIZE.ensures c.min-count.ensures c.firsts_at.ensures
