-- The derived lengths are the numbers of document 01: each as a law that other proofs use, and last the statement of specs/Lengths.
use mathlib.Core.Path.{◌≡◌, refl}
use mathlib.Core.List.{flat_map}
use Rattle.wire.specs.Numbers.{length_field}
use Rattle.model.specs.Objects.{row_data, rows_data, fitting, block, is_last}
use Rattle.model.specs.Limits.{max_rows, longest_sent, longest_received, reply_room, apdu_room, envelope_length, greatest_text, text_room, data_room, block_length, greatest_block, block_room, least_size, greatest_length, greatest_apdu, told_size}
use Rattle.model.specs.Lengths.{NamedLengths}

pub reply_room_lem : reply_room longest_sent ≡ 779
unfolding reply_room longest_sent
reply_room_lem = refl

pub apdu_room_lem : apdu_room longest_sent ≡ 765
unfolding apdu_room longest_sent
apdu_room_lem = refl

pub text_room_lem : text_room longest_sent ≡ 744
unfolding text_room apdu_room longest_sent greatest_text envelope_length length_field
text_room_lem = refl

pub data_room_lem : data_room longest_sent ≡ 740
unfolding data_room text_room apdu_room longest_sent greatest_text envelope_length length_field
data_room_lem = refl

pub block_room_lem : block_room longest_sent ≡ 732
unfolding block_room greatest_block block_length text_room apdu_room longest_sent greatest_text envelope_length length_field
block_room_lem = refl

pub least_size_lem : least_size longest_sent ≡ 768
unfolding least_size longest_sent
least_size_lem = refl

pub greatest_length_lem : greatest_length longest_received ≡ 777
unfolding greatest_length longest_received
greatest_length_lem = refl

pub told_size_lem : told_size longest_received ≡ 768
unfolding told_size longest_received
told_size_lem = refl

pub named_lengths : NamedLengths
unfolding greatest_apdu longest_received fitting data_room text_room apdu_room longest_sent greatest_text envelope_length block_room greatest_block block_length block is_last max_rows rows_data row_data flat_map length_field
named_lengths =
    record {
      reply = reply_room_lem;
      limit = greatest_length_lem;
      sent = apdu_room_lem;
      received = refl;
      proposed = least_size_lem;
      told = told_size_lem;
      room = data_room_lem;
      six = refl;
      seven = refl;
      long = refl;
      full = block_room_lem;
      begins = refl;
      sixteen = refl;
      third = refl;
      last = refl;
      second = refl;
    }
