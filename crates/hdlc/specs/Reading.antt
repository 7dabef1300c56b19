-- What a received frame is to the meter (document 01, "The frame" and "What goes out"): refused by the first test that it
-- fails, or else by its control a link up, a link down or an APDU. What goes out for it is not said here, but for which
-- refusals nothing does.
use Rattle.std.specs.Prelude.{cond, List, ℕ, ◌-◌, eqb, ltb, length, Option, Some, None, Result, Ok, Err}
use Rattle.model.specs.declared.Client.{Client}
use Rattle.hdlc.specs.Layout.{snrm, disc, byte, head_of, information_of}
use Rattle.hdlc.specs.Addresses.{sender_of}
use Rattle.hdlc.specs.Tests.{meter_side, frame_tests, first_failing, number_of}
use Rattle.hdlc.specs.declared.Frame.{Frame}
use Rattle.hdlc.specs.declared.Frame.TheVariants.{Unanswered, Rejected, LinkUp, LinkDown, Apdu}
use Rattle.hdlc.specs.declared.FrameTest.{FrameTest}
use Rattle.hdlc.specs.declared.FrameTest.TheVariants.{WrongSource}

-- refused by a test: nothing goes out for refusals 4 and 5, FRMR for 8 and 9
unfoldable pub refused_frame : List ℕ → FrameTest → Frame
refused_frame f t = cond (ltb (number_of t) 8) (Unanswered t) (Rejected t (head_of f))

-- a frame that passed every test: "93 link up, 53 link down, 13 carries an APDU", which stands after LLC and before the FCS
unfoldable pub accepted_frame : Client → List ℕ → Frame
accepted_frame c f =
    cond (eqb (byte f 5) snrm) (LinkUp c (head_of f) (ltb 0 (length (information_of f))))
    (cond (eqb (byte f 5) disc) (LinkDown c (head_of f))
    (Apdu c (head_of f) 11 (length f - 3)))

-- by the sender and what the tests came to. That the source is known is one of the tests, so an unknown one never passes.
abbrev pub judged_frame : List ℕ → Option Client → Result (Unit {0}) FrameTest → Frame
judged_frame f s (Err t) = refused_frame f t
judged_frame f (Some c) (Ok done) = accepted_frame c f
judged_frame f None (Ok done) = refused_frame f WrongSource

-- what a received frame is, for every byte string
unfoldable pub read_frame : List ℕ → Frame
read_frame f = judged_frame f (sender_of (byte f 4)) (first_failing meter_side frame_tests f)
