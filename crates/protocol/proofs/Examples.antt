-- The table is of the fourteen marked examples, and all of them hold, by computation.
use mathlib.Core.Path.{refl}
use Rattle.gf2.specs.Shift.{step as shift, steps}
use Rattle.wire.specs.Reading.{same_bytes}
use Rattle.fcs.specs.Check.{check_of, check_from, check_byte, polynomial}
use Rattle.model.specs.Limits.{longest_sent, longest_received, reply_room, greatest_length, max_rows, max_registers, max_columns}
use Rattle.model.specs.Clocks.{february_days, days_in, real_date, real_time, fixed_bytes, valid_clock}
use Rattle.model.specs.Periods.{periods}
use Rattle.model.specs.State.{new_meter}
use Rattle.model.specs.Soundness.{accepted_registers, accepted_columns, allowed, rows_allow, sound}
use Rattle.model.specs.Selecting.{is_entry_descriptor, described_entries, described}
use Rattle.model.specs.Objects.{entries_wrong, entries}
use Rattle.model.specs.Calls.{lent_refusal, act, step}
use Rattle.hdlc.specs.Layout.{format_of, hcs_of, information_of, fcs_of, head_bytes, checked, flagged, frame_of}
use Rattle.hdlc.specs.Addresses.{sender_of}
use Rattle.hdlc.specs.Tests.{first_failing}
use Rattle.hdlc.specs.Reading.{refused_frame, accepted_frame, read_frame}
use Rattle.counters.specs.Window.{step_to, in_window}
use Rattle.protocol.specs.Decide.{link_up, link_down, ruled, decide}
use Rattle.protocol.specs.Examples.{examples, ExamplesNumbered, ExamplesHold}

pub examples_numbered : ExamplesNumbered
unfolding examples
examples_numbered = refl

pub examples_hold : ExamplesHold
unfolding examples shift steps same_bytes check_of check_from check_byte polynomial longest_sent longest_received reply_room greatest_length max_rows max_registers max_columns february_days days_in real_date real_time fixed_bytes valid_clock periods new_meter accepted_registers accepted_columns allowed rows_allow sound is_entry_descriptor described_entries described entries_wrong entries lent_refusal act step format_of hcs_of information_of fcs_of head_bytes checked flagged frame_of sender_of first_failing refused_frame accepted_frame read_frame step_to in_window link_up link_down ruled decide
examples_hold = refl
