-- All worked answers and ranges are those of the definitions, by computation.
use mathlib.Core.Path.{refl}
use mathlib.Core.List.{flat_map}
use Rattle.wire.specs.Reading.{same_bytes}
use Rattle.wire.specs.Numbers.{length_field}
use Rattle.model.specs.Limits.{longest_sent, envelope_length, apdu_room, greatest_text, text_room, data_room}
use Rattle.model.specs.Clocks.{february_days, days_in, real_date, real_time, fixed_bytes, valid_clock, days_of_months, days_of_years, day_number, moment, later, in_range}
use Rattle.model.specs.Selecting.{range_descriptor, is_range_descriptor, good_range, described_range, is_entry_descriptor, described}
use Rattle.model.specs.Objects.{row_data, rows_data, attribute_data, fitting, attribute_read, method_invoked, turned}
use Rattle.model.specs.WorkedAnswers.{worked_answers, AnswersHold, worked_ranges, RangesHold}

pub answers_hold : AnswersHold
unfolding worked_answers same_bytes length_field flat_map longest_sent envelope_length apdu_room greatest_text text_room data_room row_data rows_data attribute_data fitting attribute_read method_invoked turned described
answers_hold = refl

pub ranges_hold : RangesHold
unfolding worked_ranges same_bytes february_days days_in real_date real_time fixed_bytes valid_clock days_of_months days_of_years day_number moment later in_range range_descriptor is_range_descriptor good_range described_range is_entry_descriptor described
ranges_hold = refl
