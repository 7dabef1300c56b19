-- What the promise of an owner's call says of what it handed back, whatever the protocol: the model's refusal and meter.
use mathlib.Core.Path.{◌≡◌}
use mathlib.Core.List.{[]}
use Rattle.model.specs.Calls.{OwnerCall, owner, Protocol, answer, step}
use Rattle.model.specs.Archive.{KeepsLines}
use Rattle.meter.specs.declared.Meter.{Meter}
use Rattle.meter.specs.declared.Changed.{Changed}
use Rattle.meter.specs.View.{view}
use Rattle.meter.specs.Promise.{Owned}

-- a protocol by which nothing goes out: an owner's call goes by none, so any serves to read its promise
abbrev pub silent : Protocol
silent = record { decide = λ l a. answer (record { refusal = 0; sent = []; line = l }); seal = λ l w bs. [] }

pub silent_keeps : KeepsLines silent
silent_keeps l a h = h

module _ (c : OwnerCall) (m : Meter) (r : Changed) (o : Owned c m r) where
  pub owned_refusal : r.refusal ≡ (step silent (owner c) (view m)).refusal
  owned_refusal = (o.promised silent).refusal

  pub owned_meter : view r.meter ≡ (step silent (owner c) (view m)).next
  owned_meter = (o.promised silent).meter
