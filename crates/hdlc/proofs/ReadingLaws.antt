-- What a received frame is, by the stretch of tests that decides it; and what an answer tells of the frame.
use mathlib.Core.Path.{◌≡◌, refl, sym, ap, ◌∙◌}
use mathlib.Core.Bool.{not, false≢true}
use mathlib.Core.List.{List, [], ◌∷◌, ◌++◌}
use Prim.Native.Nat.{ℕ, ◌+◌, ◌-◌, ◌≤◌, ◌<◌}
use native.Mathlib.Omega.{arith}
use lib.Dec.{eqb, ltb}
use lib.ListN.{length, take, drop}
use borrow.Author.Tests.{lt-ltb, le-ltb, eq-eqb, ne_eqb, ltb-true, ltb-false, eqb-true, not-false}
use Rattle.std.specs.Prelude.{Option, Some, None, is_some, Result, Ok, Err}
use Rattle.model.specs.Limits.{greatest_length, longest_received}
use Rattle.model.specs.declared.Client.{Client}
use Rattle.hdlc.specs.Layout.{snrm, disc, ui, byte, length_of, head_of, information_of}
use Rattle.hdlc.specs.Addresses.{sender_of}
use Rattle.hdlc.specs.Tests.{meter_side, AllPass, FirstOf, first_failing, frame_tests, number_of, layout_tests, check_tests, header_tests, control_tests}
use Rattle.hdlc.specs.Reading.{accepted_frame, judged_frame, read_frame, refused_frame}
use Rattle.hdlc.specs.declared.Frame.{Frame}
use Rattle.hdlc.specs.declared.Frame.TheVariants.{Unanswered, Rejected, LinkUp, LinkDown, Apdu}
use Rattle.hdlc.specs.declared.FrameTest.{FrameTest}
use Rattle.hdlc.specs.declared.FrameTest.TheVariants.{ShortFrame, LengthMismatch, OverLength, WrongSource, UnknownControl, ShortInformation}
use Rattle.hdlc.proofs.LayoutLaws.{information_length}
use Rattle.hdlc.proofs.TestLaws.{by_test, fails_first, passes_first, fails_here, passes_here, names_first, all_pass, passes_in}

-- what the tests after each stretch are
abbrev after_header : List FrameTest
after_header = WrongSource ∷ control_tests

abbrev after_checks : List FrameTest
after_checks = header_tests ++ after_header

abbrev after_layout : List FrameTest
after_layout = check_tests ++ after_checks

module _ (f : List ℕ) where
  -- the first failing test of all, and the sender
  decided : {v : Result (Unit {0}) FrameTest} → first_failing meter_side frame_tests f ≡ v → read_frame f ≡ judged_frame f (sender_of (byte f 4)) v
  unfolding read_frame
  decided e = ap (judged_frame f (sender_of (byte f 4))) e

  pub read_short : length f < 9 → read_frame f ≡ Unanswered ShortFrame
  unfolding refused_frame
  read_short h = decided (fails_first meter_side f ShortFrame (layout_tests ++ after_layout) (lt-ltb (length f) 9 h))

  module _ (h : 9 ≤ length f) where
    long : first_failing meter_side frame_tests f ≡ first_failing meter_side (layout_tests ++ after_layout) f
    long = passes_first meter_side f ShortFrame (layout_tests ++ after_layout) (le-ltb (length f) 9 h)

    pub read_layout : {t : FrameTest} → first_failing meter_side layout_tests f ≡ Err t → read_frame f ≡ refused_frame f t
    read_layout e = decided (long ∙ fails_here meter_side f layout_tests after_layout e)

    module _ (l : first_failing meter_side layout_tests f ≡ Ok tt) where
      laid : first_failing meter_side frame_tests f ≡ first_failing meter_side after_layout f
      laid = long ∙ passes_here meter_side f layout_tests after_layout l

      pub read_checks : {t : FrameTest} → first_failing meter_side check_tests f ≡ Err t → read_frame f ≡ refused_frame f t
      read_checks e = decided (laid ∙ fails_here meter_side f check_tests after_checks e)

      module _ (k : first_failing meter_side check_tests f ≡ Ok tt) where
        checked : first_failing meter_side frame_tests f ≡ first_failing meter_side after_checks f
        checked = laid ∙ passes_here meter_side f check_tests after_checks k

        pub read_header : {t : FrameTest} → first_failing meter_side header_tests f ≡ Err t → read_frame f ≡ refused_frame f t
        read_header e = decided (checked ∙ fails_here meter_side f header_tests after_header e)

        module _ (j : first_failing meter_side header_tests f ≡ Ok tt) where
          headed : first_failing meter_side frame_tests f ≡ first_failing meter_side after_header f
          headed = checked ∙ passes_here meter_side f header_tests after_header j

          pub read_unknown : sender_of (byte f 4) ≡ None → read_frame f ≡ refused_frame f WrongSource
          read_unknown e = decided (headed ∙ fails_first meter_side f WrongSource control_tests (ap (λ s. not (is_some s)) e))

          pub read_known : (c : Client) → sender_of (byte f 4) ≡ Some c → read_frame f ≡ judged_frame f (Some c) (first_failing meter_side control_tests f)
          read_known c e =
              decided (headed ∙ passes_first meter_side f WrongSource control_tests (ap (λ s. not (is_some s)) e)) ∙ ap (λ s. judged_frame f s (first_failing meter_side control_tests f)) e

-- What an accepted frame is, by its control.
module _ (f : List ℕ) (c : Client) where
  pub accepted_up : byte f 5 ≡ snrm → accepted_frame c f ≡ LinkUp c (head_of f) (ltb 0 (length (information_of f)))
  unfolding accepted_frame
  accepted_up e = rw (eq-eqb (byte f 5) snrm e)

  pub accepted_down : byte f 5 ≡ disc → accepted_frame c f ≡ LinkDown c (head_of f)
  unfolding accepted_frame
  accepted_down e = rw (ne_eqb (byte f 5) snrm (λ q. omega arith), eq-eqb (byte f 5) disc e)

  pub accepted_apdu : byte f 5 ≡ ui → accepted_frame c f ≡ Apdu c (head_of f) 11 (length f - 3)
  unfolding accepted_frame
  accepted_apdu e = rw (ne_eqb (byte f 5) snrm (λ q. omega arith), ne_eqb (byte f 5) disc (λ q. omega arith))

-- a frame of a client with a control, that passes every test
pub record AcceptedFrame (c : Client) (control : ℕ) (f : List ℕ) : Type 0 where
  pub passes : AllPass meter_side f frame_tests
  pub source : sender_of (byte f 4) ≡ Some c
  pub command : byte f 5 ≡ control

-- an APDU that stands in a frame: at least one byte of it, and with LLC no more than the longest information
pub record Carried (f : List ℕ) (start end : ℕ) : Type 0 where
  pub first : start ≡ 11
  pub last : end + 3 ≡ length f
  pub some : start < end
  pub most : end ≤ 8 + longest_received

-- What an answer tells of the frame: the test that it names is the first that fails, or every test passes.
abbrev pub Told : List ℕ → Frame → Type 0
Told f (Unanswered t) = (number_of t < 8) × FirstOf meter_side frame_tests f t
Told f (Rejected t h) = (8 ≤ number_of t) × FirstOf meter_side frame_tests f t × (h ≡ head_of f)
Told f (LinkUp c h i) = AcceptedFrame c snrm f × (h ≡ head_of f) × (i ≡ ltb 0 (length (information_of f)))
Told f (LinkDown c h) = AcceptedFrame c disc f × (h ≡ head_of f)
Told f (Apdu c h start end) = AcceptedFrame c ui f × (h ≡ head_of f) × Carried f start end

module _ (f : List ℕ) where
  refused_told : (t : FrameTest) → FirstOf meter_side frame_tests f t → Told f (refused_frame f t)
  unfolding refused_frame
  refused_told t n =
      by_test (ltb (number_of t) 8) (λ e. rw e (ltb-true (number_of t) 8 e, n)) (λ e. rw e (ltb-false (number_of t) 8 e, n, refl))

  carried : AllPass meter_side f frame_tests → byte f 5 ≡ ui → Carried f 11 (length f - 3)
  unfolding greatest_length
  carried p e =
      let long = ltb-false (length f) 9 (passes_in meter_side f [] (drop 1 frame_tests) ShortFrame p) in
      let len = eqb-true (length_of f) (length f - 2) (not-false _ (passes_in meter_side f (take 3 frame_tests) (drop 4 frame_tests) LengthMismatch p)) in
      let over = ltb-false (longest_received + 9) (length_of f) (passes_in meter_side f (take 9 frame_tests) (drop 10 frame_tests) OverLength p) in
      let short = ltb-false (length (information_of f)) 4 (rw e at (passes_in meter_side f (take 16 frame_tests) (drop 17 frame_tests) ShortInformation p)) in
      let n = information_length f in
      record { first = refl; last = omega arith; some = omega arith; most = omega arith }

  accepted_told : (c : Client) → AllPass meter_side f frame_tests → sender_of (byte f 4) ≡ Some c → Told f (accepted_frame c f)
  accepted_told c p s =
      let known = passes_in meter_side f (take 14 frame_tests) (drop 15 frame_tests) UnknownControl p in
      let with : (k : ℕ) → byte f 5 ≡ k → AcceptedFrame c k f = λ k e. record { passes = p; source = s; command = e } in
      by_test (eqb (byte f 5) snrm)
      (λ e. let q = eqb-true (byte f 5) snrm e in rw (accepted_up f c q) (with snrm q, refl, refl))
      (λ e.
      by_test (eqb (byte f 5) disc)
      (λ d. let q = eqb-true (byte f 5) disc d in rw (accepted_down f c q) (with disc q, refl))
      (λ d.
      let q = eqb-true (byte f 5) ui (not-false (eqb (byte f 5) ui) (rw (e, d) at known)) in
      rw (accepted_apdu f c q) (with ui q, refl, carried p q)))

  -- for the caller of `read_frame`, by the answer that it got
  pub read_told : Told f (read_frame f)
  unfolding read_frame
  read_told = go (first_failing meter_side frame_tests f) refl (sender_of (byte f 4)) refl
    where
      go : (v : Result (Unit {0}) FrameTest) → first_failing meter_side frame_tests f ≡ v → (s : Option Client) → sender_of (byte f 4) ≡ s → Told f (judged_frame f s v)
      go (Err t) e s q = refused_told t (names_first meter_side f frame_tests e)
      go (Ok done) e (Some c) q = accepted_told c (all_pass meter_side f frame_tests e) q
      go (Ok done) e None q =
          let p = passes_in meter_side f (take 13 frame_tests) (drop 14 frame_tests) WrongSource (all_pass meter_side f frame_tests e) in
          absurd (false≢true (sym p ∙ ap (λ s. not (is_some s)) q))
