-- How long the titles of the clients are: said once for every function that has a line for its first parameter. A
-- field's relation stands at `.1 .1`, one `.1` for each field before it, then `.0`; an array's length in that at `.1 .0 .1`.
use mathlib.Core.Path.{◌≡◌}
use mathlib.Core.List.{List}
use lib.ListN.{length}
use mir.Val.{Val}
use denote.Laws.{Is}
use denote.Struct.Declared.{row}
use Rattle.model.specs.declared.Client.{Client}
use Rattle.model.specs.declared.Client.TheVariants.{Verification, Ciphering}
use Rattle.model.specs.declared.CipherClient.TheVariants.{Han}
use Rattle.line.specs.declared.LineState.{LineState}
use Rattle.line.specs.View.{line_of}
use Rattle.line.specs.contracts.LineState.{the_type as line-type}
use Rattle.protocol.specs.Clients.{peer}

pub title_long : (l : LineState) (vs : List Val) → Is (row line-type) l vs → (c : Client) → length (peer c (line_of l)).title ≡ 8
unfolding line_of
title_long l vs g Verification = g.1.1.1.0.1.1.0.1.0.1
title_long l vs g (Ciphering Han) = g.1.1.1.1.0.1.1.0.1.1.0.1.0.1
