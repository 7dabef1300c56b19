-- How a frame call ends: refused by what is lent, by the state, or by what the protocol rules.
use mathlib.Core.Path.{◌≡◌, refl, ap, ◌∙◌}
use mathlib.Core.Bool.{Bool, true, false}
use mathlib.Core.List.{List}
use Prim.Native.Nat.{ℕ}
use lib.Dec.{eqb}
use Rattle.model.specs.declared.SoundnessTest.TheVariants.{TransferPossible}
use Rattle.model.specs.Soundness.{allowed, sound}
use Rattle.model.specs.Calls.{Lent, lent_refusal, settled, act, step}
use Rattle.model.proofs.ListLaws.{both}
use Rattle.model.proofs.SoundnessLaws.{sound_passes}
use Rattle.line.specs.View.{line_of}
use Rattle.picks.specs.Transfers.{transfer_of}
use Rattle.body.specs.View.{body_of}
use Rattle.meter.specs.declared.Meter.{Meter}
use Rattle.meter.specs.View.{view}
use Rattle.protocol.specs.Decide.{ruled, decide}
use Rattle.ending.specs.declared.Heard.{Heard}
use Rattle.ending.specs.declared.Received.{Received}
use Rattle.p2.specs.Promise.{Answered}
use Rattle.p2.specs.Settling.{settled_received}
use Rattle.ending.specs.Inner.{received, carried_out, Hears}
use Rattle.ending.proofs.Endings.{kept_leaves}

-- what comes back shows the meter that was carried out, settled
settled_view : (r : Received) → view (settled_received r).meter ≡ settled (view r.meter)
unfolding view body_of transfer_of
settled_view r = go (allowed (line_of r.meter.line) (transfer_of r.meter.body.transfer)) refl
  where
    go : (b : Bool) → allowed (line_of r.meter.line) (transfer_of r.meter.body.transfer) ≡ b → view (settled_received r).meter ≡ settled (view r.meter)
    go true e = rw e refl
    go false e = rw e refl

module _ (a : Lent) (m : Meter) {l : List ℕ} where
  -- refused by what is lent
  pub lent_refused : {n : ℕ} → lent_refusal a ≡ n → eqb n 0 ≡ false → Answered a m l l (received n 0 m)
  unfolding step
  lent_refused {n} e z = record { promised = rw (e, z) (record { refusal = refl; count = refl; meter = refl; room = refl }); kept = λ _. refl; wiped = kept_leaves m }

  module _ (e : lent_refusal a ≡ 0) where
    -- refused by the state
    pub unsound_refused : sound (view m) ≡ false → Answered a m l l (received 3 0 m)
    unfolding step
    unsound_refused u = record { promised = rw (e, u) (record { refusal = refl; count = refl; meter = refl; room = refl }); kept = λ _. refl; wiped = kept_leaves m }

    -- by the protocol, and settled
    pub ruled_answered : {o : List ℕ} (h : Heard) → sound (view m) ≡ true → Hears (ruled (view m).line a) m l o h → Answered a m l o (settled_received (carried_out m h))
    unfolding step act decide view body_of
    ruled_answered {o} h u f =
        record {
          promised = rw (e, u) (record { refusal = f.gave.refusal; count = f.gave.count; meter = settled_view (carried_out m h) ∙ ap settled f.gave.meter; room = f.gave.room });
          kept = λ g. very (f.kept g);
          wiped = f.wiped;
        }
      where
        -- the very meter that was ruled is sound, and so its line allows its transfer
        very : (carried_out m h).meter ≡ m → (settled_received (carried_out m h)).meter ≡ m
        very q =
            let allows = ap (λ (n : Meter). allowed (line_of n.line) (transfer_of n.body.transfer)) q ∙ (both (allowed (line_of m.line) (transfer_of m.body.transfer)) _ (sound_passes (view m) u TransferPossible)).0 in
            rw allows q
