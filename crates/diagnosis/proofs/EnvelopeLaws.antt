-- An envelope of a client that ciphers by what the code told of it, as the tests of its shape, its GCM tag and its counter.
use mathlib.Core.Path.{◌≡◌, refl, ap, ◌∙◌}
use mathlib.Core.List.{List}
use Prim.Native.Nat.{ℕ}
use Rattle.std.specs.Prelude.{Some, None, Result, Ok, Err}
use Rattle.model.specs.declared.CipherClient.{CipherClient}
use Rattle.model.specs.declared.Counters.{Counters}
use Rattle.model.specs.State.{Line}
use Rattle.material.specs.Material.{Keys}
use Rattle.envelope.specs.declared.Shape.{Shape}
use Rattle.envelope.specs.declared.Opening.{Opening}
use Rattle.envelope.specs.declared.Unadmitted.{Unadmitted}
use Rattle.envelope.specs.declared.Unadmitted.TheVariants.{Unopened, OutsideWindow}
use Rattle.envelope.specs.Opening.{shape_of, opened, AdmittedInto}
use Rattle.envelope.proofs.AdmitLaws.{unopened_of, outside_of, admitted_of}
use Rattle.protocol.specs.Clients.{ciphering, counters}
use Rattle.ending.proofs.Envelopes.{from_start, same_opening, window_of}
use Rattle.call_tests.specs.declared.LineTest.TheVariants.{EnvelopeShape, EnvelopeTag, CounterWindow}
use Rattle.call_tests.specs.Road.{envelope_finds}
use Rattle.diagnosis.specs.Promise.{OpensTo}

module _ (l : Line) (c : CipherClient) (k : Keys) (tag : ℕ) (s : List ℕ) where
  pub misshapen : {m : List ℕ} → shape_of tag s ≡ None → OpensTo l c k tag s m (Err EnvelopeShape)
  unfolding envelope_finds
  misshapen e = record { finds = λ inside. rw e refl; within = tt }

  module _ {shaped : Shape} (shape : shape_of tag s ≡ Some shaped) {title : List ℕ} (et : title ≡ (ciphering c l).peer.title) {pair : Counters} (ep : pair ≡ counters c l) {before after : List ℕ} {r : Result Opening Unadmitted} (g : AdmittedInto pair.accepted (opened k title tag s) before after r) where
    same : opened k (ciphering c l).peer.title tag s ≡ opened k title tag s
    same = same_opening tag s refl et

    pub unopened : r ≡ Err Unopened → OpensTo l c k tag s after (Err EnvelopeTag)
    unfolding envelope_finds
    unopened q = record { finds = λ inside. rw (shape, same ∙ unopened_of _ g q) refl; within = tt }

    pub outside : r ≡ Err OutsideWindow → OpensTo l c k tag s after (Err CounterWindow)
    unfolding envelope_finds
    outside q =
        let w = outside_of _ g q in
        record { finds = λ inside. rw (shape, same ∙ w.opening, window_of c l ep w.counter w.window) refl; within = tt }

    pub opens_inside : {x : Opening} → r ≡ Ok x → OpensTo l c k tag s after (Ok x)
    unfolding envelope_finds
    opens_inside {x} q =
        let w = admitted_of _ g q in
        record {
          finds = λ inside. rw (shape, same ∙ w.0.0, window_of c l ep x.counter w.1) (ap (inside x.counter) (from_start x.size after));
          within = w.0.1;
        }
