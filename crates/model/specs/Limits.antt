-- Lengths that follow from the two limits of the link, each a function of its limit alone (document 01, "The frame" and
-- "Objects and rows"). No derived number is written out: that they are 01's is stated in specs/Lengths.
use Rattle.std.specs.Prelude.{cond, ℕ, zero, suc, ◌+◌, ◌-◌, length, leb}
use Rattle.wire.specs.Numbers.{length_field}

-- the longest information that the meter sends, and the longest that it takes
unfoldable pub longest_sent : ℕ
longest_sent = 768

unfoldable pub longest_received : ℕ
longest_received = 768

-- From the longest information sent.

-- "reply room": both flags, format, addresses, control, HCS and FCS around the information
unfoldable pub reply_room : ℕ → ℕ
reply_room sent = sent + 11

-- the longest APDU: what LLC leaves of the information
unfoldable pub apdu_room : ℕ → ℕ
apdu_room sent = sent - 3

-- the bytes of an "envelope" around n bytes of text: tag, length, security control, counter, text, GCM tag
unfoldable pub envelope_length : ℕ → ℕ
envelope_length n = 1 + length (length_field (1 + 4 + n + 12)) + (1 + 4 + n + 12)

-- the greatest number up to n of bytes of text whose envelope fits the room
unfoldable pub greatest_text : ℕ → ℕ → ℕ
greatest_text room zero = 0
greatest_text room (suc n) = cond (leb (envelope_length (suc n)) room) (suc n) (greatest_text room n)

-- the longest text in an envelope
unfoldable pub text_room : ℕ → ℕ
text_room sent = greatest_text (apdu_room sent) (apdu_room sent)

-- "Data for H may take": what the head of a GET answer, C4 01, invoke byte and 00, leaves of the text
unfoldable pub data_room : ℕ → ℕ
data_room sent = text_room sent - 4

-- the bytes of a block around n bytes of data: C4 02, invoke byte, last-block byte, four-byte number, 00, length, data
unfoldable pub block_length : ℕ → ℕ
block_length n = 9 + length (length_field n) + n

-- the greatest number up to n of bytes of data whose block fits the text
unfoldable pub greatest_block : ℕ → ℕ → ℕ
greatest_block text zero = 0
greatest_block text (suc n) = cond (leb (block_length (suc n)) text) (suc n) (greatest_block text n)

-- the data of a full block
unfoldable pub block_room : ℕ → ℕ
block_room sent = greatest_block (text_room sent) (text_room sent)

-- the least size that an AARQ may propose
unfoldable pub least_size : ℕ → ℕ
least_size sent = sent

-- From the longest information received.

-- the greatest length L of a frame: format, addresses, control, HCS and FCS beside the information
unfoldable pub greatest_length : ℕ → ℕ
greatest_length received = received + 9

-- the longest APDU that an information can carry: what LLC leaves of it
unfoldable pub greatest_apdu : ℕ → ℕ
greatest_apdu received = received - 3

-- the size that an AARE tells
unfoldable pub told_size : ℕ → ℕ
told_size received = received

-- Capacities of the meter ("at most 15 rows", "up to 16 registers", "16 at most").

unfoldable pub max_rows : ℕ
max_rows = 15

unfoldable pub max_registers : ℕ
max_registers = 16

unfoldable pub max_columns : ℕ
max_columns = 16
