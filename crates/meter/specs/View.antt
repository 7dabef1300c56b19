-- What a meter of the code holds, as a Model.
use Rattle.model.specs.State.{Model}
use Rattle.line.specs.View.{line_of}
use Rattle.body.specs.View.{body_of}
use Rattle.meter.specs.declared.Meter.{Meter}

unfoldable pub view : Meter → Model
view m = record { line = line_of m.line; body = body_of m.body }
