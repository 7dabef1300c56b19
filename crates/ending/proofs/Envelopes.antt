-- An envelope of a client that ciphers by what the code told of it: its keys, the title and the counters are those of the line.
use mathlib.Core.Path.{◌≡◌, refl, sym, ap, ap₂, ◌∙◌}
use mathlib.Core.Bool.{Bool}
use mathlib.Core.List.{List}
use Prim.Native.Nat.{ℕ, ◌-◌, ◌≤◌}
use native.Mathlib.Omega.{arith}
use lib.ListN.{length, take}
use Rattle.wire.specs.Reading.{part}
use Rattle.model.specs.declared.CipherClient.{CipherClient}
use Rattle.model.specs.declared.Client.TheVariants.{Ciphering}
use Rattle.model.specs.declared.Counters.{Counters}
use Rattle.model.specs.State.{none, Line}
use Rattle.counters.specs.Window.{in_window}
use Rattle.envelope.specs.declared.Opening.{Opening}
use Rattle.envelope.specs.declared.Unadmitted.{Unadmitted}
use Rattle.envelope.specs.declared.Unadmitted.TheVariants.{Unopened, OutsideWindow}
use Rattle.std.specs.Prelude.{Option, Some, None, Result, Ok, Err}
use Rattle.material.specs.Material.{Keys}
use Rattle.envelope.specs.Opening.{Opened, fails, opens, opened, OpenedInto, AdmittedInto}
use Rattle.envelope.proofs.AdmitLaws.{opened_not, opened_text, unopened_of, outside_of, admitted_of}
use Rattle.cosem.specs.declared.Asked.{Asked}
use Rattle.envelope.specs.Challenge.{right_proof}
use Rattle.protocol.specs.declared.Secrets.{Secrets}
use Rattle.protocol.specs.Clients.{associates, ciphering, counters, held, lent_keys, meter_challenge}
use Rattle.protocol.specs.Rulings.{Ruling, says, nothing, envelope_unopened, outside_window}
use Rattle.protocol.specs.Decide.{admitted, proof_in, proves_itself}

-- the part from the start, as a caller lends it
pub from_start : (n : ℕ) (s : List ℕ) → take n s ≡ part 0 n s
from_start n s = let z : n ≡ n - 0 = omega arith in ap (λ (k : ℕ). take k s) z

-- the window of a pair that is the client's
pub window_of : (c : CipherClient) (l : Line) {pair : Counters} → pair ≡ counters c l → (counter : ℕ) {b : Bool} → in_window pair.accepted counter ≡ b → in_window (counters c l).accepted counter ≡ b
window_of c l ep counter e = ap (λ (x : Counters). in_window x.accepted counter) (sym ep) ∙ e

pub admitted_size : {accepted : ℕ} {o : Opened} {before after : List ℕ} {r : Result Opening Unadmitted} → AdmittedInto accepted o before after r → {x : Opening} → r ≡ Ok x → x.size ≤ length after
admitted_size g q = (admitted_of _ g q).0.1

module _ {k n : Keys} {t u : List ℕ} (tag : ℕ) (s : List ℕ) (ek : k ≡ n) (et : t ≡ u) where
  pub same_opening : opened n u tag s ≡ opened k t tag s
  same_opening = ap₂ (λ (x : Keys) (y : List ℕ). opened x y tag s) (sym ek) (sym et)

  module _ {before after : List ℕ} {r : Option Opening} (g : OpenedInto (opened k t tag s) before after r) where
    pub envelope_fails : r ≡ None → opened n u tag s ≡ fails
    envelope_fails q = same_opening ∙ (opened_not g q).0

    pub envelope_opens : {x : Opening} → r ≡ Some x → opened n u tag s ≡ opens x.counter (part 0 x.size after)
    envelope_opens {x} q = same_opening ∙ (opened_text g q).0 ∙ ap (opens x.counter) (from_start x.size after)

  module _ (c : CipherClient) (l : Line) {pair : Counters} (ep : pair ≡ counters c l) (inside : ℕ → List ℕ → Ruling) {before after : List ℕ} {r : Result Opening Unadmitted} (g : AdmittedInto pair.accepted (opened k t tag s) before after r) where
    pub admits_unopened : r ≡ Err Unopened → admitted l c (opened n u tag s) inside ≡ says envelope_unopened nothing l
    admits_unopened q = rw (same_opening ∙ unopened_of _ g q) refl

    pub admits_outside : r ≡ Err OutsideWindow → admitted l c (opened n u tag s) inside ≡ says outside_window nothing (associates (Ciphering c) none l)
    admits_outside q = let w = outside_of _ g q in rw (same_opening ∙ w.opening, window_of c l ep w.counter w.window) refl

    pub admits_inside : {x : Opening} → r ≡ Ok x → admitted l c (opened n u tag s) inside ≡ inside x.counter (part 0 x.size after)
    admits_inside {x} q = let w = admitted_of _ g q in rw (same_opening ∙ w.0.0, window_of c l ep x.counter w.1) (ap (inside x.counter) (from_start x.size after))

-- a proof that was tested under the lent keys, made ready
pub proves_under : (c : CipherClient) (l : Line) (a : Secrets) (counter : ℕ) (text : List ℕ) (q : Asked) {k : Keys} {b : Bool} → k ≡ lent_keys a
    → b ≡ right_proof k (ciphering c l).peer.title (meter_challenge (held c l)) (counters c l).accepted counter (proof_in text q.wanted)
    → proves_itself l a c counter text q ≡ b
unfolding proves_itself
proves_under c l a counter text q e h =
    sym
    (h
    ∙ ap (λ (k : Keys). right_proof k (ciphering c l).peer.title (meter_challenge (held c l)) (counters c l).accepted counter (proof_in text q.wanted)) e)
