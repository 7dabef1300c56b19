-- The lengths that document 01 writes as numbers, which specs/Limits and specs/Objects derive from the two limits of the link; and
-- those of answers in blocks (document 02, Q-4), worked out.
-- Proved in proofs/LimitFacts. No other definition cites this page.
use Rattle.std.specs.Prelude.{◌≡◌, true, false, List, ℕ, length, replicate}
use Rattle.model.specs.Limits.{max_rows, longest_sent, longest_received, reply_room, apdu_room, data_room, block_room, least_size, greatest_length, greatest_apdu, told_size}
use Rattle.model.specs.Selecting.{whole}
use Rattle.model.specs.State.{Entry, profile, Transfer, running, new_clock}
use Rattle.model.specs.Objects.{begun, denied, rows_data, fitting, block, is_last}

-- fifteen rows of n columns
abbrev pub rows_of_cells : ℕ → List Entry
rows_of_cells n = replicate max_rows (record { number = 1; clock = new_clock; cells = replicate n 0 })

-- a read of all rows that begins
abbrev pub whole_profile : Transfer
whole_profile = running (profile whole) 1

pub record NamedLengths : Type 0 where
  -- "reply room below 779"
  pub reply : reply_room longest_sent ≡ 779
  -- "the P2 limit is 777"
  pub limit : greatest_length longest_received ≡ 777
  -- "the APDU, at most 765 bytes"
  pub sent : apdu_room longest_sent ≡ 765
  pub received : greatest_apdu longest_received ≡ 765
  -- "a two-byte size, at least 768"; the AARE tells "03 00"
  pub proposed : least_size longest_sent ≡ 768
  pub told : told_size longest_received ≡ 0x0300
  -- "data for H may take 740 bytes"
  pub room : data_room longest_sent ≡ 740
  -- "six columns and 15 rows take 737; seven take 812 and answer 250"
  pub six : length (rows_data (rows_of_cells 6)) ≡ 737
  pub seven : length (rows_data (rows_of_cells 7)) ≡ 812
  pub long : fitting false whole_profile (rows_data (rows_of_cells 7)) ≡ denied 250
  -- document 02, Q-4: with the block bit agreed they come in blocks, of 732 bytes where one is full; sixteen columns and 15 rows take
  -- 1487 bytes, in three
  pub full : block_room longest_sent ≡ 732
  pub begins : fitting true whole_profile (rows_data (rows_of_cells 7)) ≡ begun whole_profile (rows_data (rows_of_cells 7))
  pub sixteen : length (rows_data (rows_of_cells 16)) ≡ 1487
  pub third : length (block 3 (rows_data (rows_of_cells 16))) ≡ 23
  pub last : is_last 3 (rows_data (rows_of_cells 16)) ≡ true
  pub second : is_last 2 (rows_data (rows_of_cells 16)) ≡ false
