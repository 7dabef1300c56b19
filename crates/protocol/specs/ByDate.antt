-- Rows by date at the plug (document 02, Q-1): H's GET of the profile with a range, its answer, and what H finds in it. On
-- every sound meter every row of the range is read, and of two rows of the same second both. Proved in proofs/ByDate.
use Rattle.std.specs.Prelude.{◌≡◌, true, List, ◌∷◌, ℕ, ◌≤◌, length}
use Rattle.model.specs.declared.Client.TheVariants.{Ciphering}
use Rattle.model.specs.declared.CipherClient.TheVariants.{Han}
use Rattle.model.specs.declared.Clock.{Clock}
use Rattle.model.specs.Limits.{longest_sent, data_room}
use Rattle.model.specs.Clocks.{in_range}
use Rattle.model.specs.Selecting.{range_descriptor, good_range}
use Rattle.model.specs.State.{Entry, idle, with_transfer, Model}
use Rattle.model.specs.Soundness.{sound}
use Rattle.model.specs.Objects.{granted, rows_data, get_answer}
use Rattle.model.specs.Calls.{Lent}
use Rattle.model.specs.Archive.{rows_of}
use Rattle.model.specs.ByDate.{KeptWithin, TwoOf}
use Rattle.cosem.specs.declared.ServiceKind.TheVariants.{Get}
use Rattle.counters.specs.Advance.{next_counter}
use Rattle.envelope.specs.Opening.{opens, opened}
use Rattle.protocol.specs.Clients.{selective_in}
use Rattle.protocol.specs.Decide.{accepted, advanced}
use Rattle.protocol.specs.Outcomes.{outcome, apdu_of, to_h}
use Rattle.protocol.specs.Lazy.{request_keys, Asking}

-- a GET of attribute 2 of the profile by selector 1, with this invoke byte: class 7, 0.0.21.0.6.255
unfoldable pub get_range : (invoke : ℕ) → (from to : Clock) → List ℕ
get_range invoke from to =
    0xC0 ∷ 0x01 ∷ invoke ∷ 0x00 ∷ 0x07 ∷ 0x00 ∷ 0x00 ∷ 0x15 ∷ 0x00 ∷ 0x06 ∷ 0xFF ∷ 0x02 ∷ 0x01 ∷ 0x01 ∷ range_descriptor from to

-- what H asks, and may: a good range of two clocks, selective access agreed
pub record AsksByDate (a : Lent) (m : Model) (from to : Clock) (counter invoke : ℕ) : Type 0 where
  pub is_sound : sound m ≡ true
  pub first : length from.bytes ≡ 12
  pub last : length to.bytes ≡ 12
  pub good : good_range from to ≡ true
  pub agreed : selective_in (Ciphering Han) m.line ≡ true
  pub asks : Asking Han a m.line Get counter (get_range invoke from to)

-- the answer to it, with these rows, and what H finds in it: the APDU of the frame opens under H's keys and the meter's title, with
-- the meter's counter plus one, and the text in it is the rows
pub record DatedRead (a : Lent) (m : Model) (counter invoke : ℕ) (rs : List Entry) : Type 0 where
  pub answer :
      outcome a m
      ≡ record {
        refusal = 0;
        sent = to_h a m.line Han 0xD0 (get_answer invoke (granted (rows_data rs)));
        next = record { line = advanced Han (accepted Han counter m.line); body = with_transfer idle m.body };
      }
  pub found :
      opened (request_keys Han a m.line) m.line.title 0xD4 (apdu_of (outcome a m).sent)
      ≡ opens (next_counter m.line.han.counters.sent) (get_answer invoke (granted (rows_data rs)))

-- the rows of the range, each as often as it is kept, in stored order, are read, where they fit one answer
abbrev pub RowsReadByDate : Type 0
RowsReadByDate =
    (a : Lent) (m : Model) (from to : Clock) (counter invoke : ℕ) (rs : List Entry)
    → AsksByDate a m from to counter invoke
    → KeptWithin from to (rows_of m) rs
    → length (rows_data rs) ≤ data_room longest_sent
    → DatedRead a m counter invoke rs

-- two rows are in the answer, one before the other
pub record BothRead (a : Lent) (m : Model) (counter invoke : ℕ) (r s : Entry) (rs : List Entry) : Type 0 where
  pub both : TwoOf r s rs
  pub read : DatedRead a m counter invoke rs

-- on every sound meter that keeps two rows of the same second inside the range, both are read, where the rows fit one answer
abbrev pub BothReadByDate : Type 0
BothReadByDate =
    (a : Lent) (m : Model) (from to : Clock) (counter invoke : ℕ) (r s : Entry) (rs : List Entry)
    → AsksByDate a m from to counter invoke
    → KeptWithin from to (rows_of m) rs
    → length (rows_data rs) ≤ data_room longest_sent
    → TwoOf r s (rows_of m)
    → r.clock ≡ s.clock
    → in_range from to r.clock ≡ true
    → BothRead a m counter invoke r s rs

-- and there is such a meter, range and frame
pub record ByDateHappens : Type 0 where
  pub lent : Lent
  pub meter : Model
  pub from : Clock
  pub to : Clock
  pub counter : ℕ
  pub invoke : ℕ
  pub newer : Entry
  pub older : Entry
  pub rows : List Entry
  pub asks : AsksByDate lent meter from to counter invoke
  pub kept : KeptWithin from to (rows_of meter) rows
  pub fits : length (rows_data rows) ≤ data_room longest_sent
  pub both : TwoOf newer older (rows_of meter)
  pub same : newer.clock ≡ older.clock
  pub inside : in_range from to newer.clock ≡ true
