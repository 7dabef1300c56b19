-- How long the arrays are that a name and a body hold, by what owning the struct tells: the paths are those of the crate
-- store's Lengths.
use mathlib.Core.Path.{◌≡◌}
use mathlib.Core.List.{List}
use lib.ListN.{length}
use mir.Val.{Val}
use denote.Laws.{Is}
use denote.Struct.Declared.{row}
use Rattle.model.specs.declared.Name.{Name}
use Rattle.model.specs.contracts.Name.{the_type as name-type}
use Rattle.body.specs.declared.BodyState.{BodyState}
use Rattle.body.specs.contracts.BodyState.{the_type as body-type}

pub name_long : (n : Name) (vs : List Val) → Is (row name-type) n vs → length n.bytes ≡ 6
name_long n vs g = g.1.1.0.1.0.1

pub device_long : (b : BodyState) (vs : List Val) → Is (row body-type) b vs → length b.device ≡ 16
device_long b vs g = g.1.1.0.1.0.1

pub clock_long : (b : BodyState) (vs : List Val) → Is (row body-type) b vs → length b.clock.bytes ≡ 12
clock_long b vs g = g.1.1.1.0.1.1.0.1.0.1
