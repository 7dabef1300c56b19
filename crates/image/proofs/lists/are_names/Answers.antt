-- `image::lists::are_names` meets its contract: any six bytes are a name.
use mathlib.Core.Path.{refl}
use Rattle.image.specs.Layout.{name_part}
use Rattle.image.proofs.ListLaws.{whole_always}
use Rattle.image.proofs.TakenLaws.{name_taken}
use Rattle.image.specs.Sizes.{sizes}
use Rattle.image.proofs.lists.are_names.Goals as goal

pub returns : goal.returns
returns c = whole_always name_part sizes.name_size _ name_taken refl
