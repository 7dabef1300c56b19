-- Demand 3 holds of the functions as they run: what each ensures is what the model's run of promises asks.
use mathlib.Core.List.{List, [], ◌∷◌}
use Rattle.model.specs.Calls.{Call}
use Rattle.model.specs.Demand3.{Handed, Promised, Run, none_run, more_run}
use Rattle.meter.specs.declared.Meter.{Meter}
use Rattle.meter.specs.View.{view}
use Rattle.protocol.specs.Decide.{p2}
use Rattle.protocol.proofs.Claim.{p2_demand3}
use Rattle.p2.specs.Runs.{Ensured, receives, owns, Runs, none, more, RunsDemand3}

ensured : (m : Meter) (c : Call) (h : Handed Meter view) → Ensured m c h → Promised Meter view p2 c m h
ensured m c h (receives a before after r e) = e.promised
ensured m c h (owns d r e) = e.promised p2

runs : (m : Meter) (cs : List Call) (hs : List (Handed Meter view)) → Runs m cs hs → Run Meter view p2 m cs hs
runs m [] [] none = none_run
runs m [] (h ∷ hs) x = elim x [ ]
runs m (c ∷ cs) [] x = elim x [ ]
runs m (c ∷ cs) (h ∷ hs) (more e r) = more_run (ensured m c h e) (runs h.meter cs hs r)

pub runs_demand3 : RunsDemand3
runs_demand3 ch m₁ m₂ cs₁ cs₂ hs₁ hs₂ a c r₁ r₂ =
    p2_demand3 ch m₁ m₂ cs₁ cs₂ hs₁ hs₂ a c (runs m₁ cs₁ hs₁ r₁) (runs m₂ cs₂ hs₂ r₂)
